use Rattle.std.proofs.Common.{◌≡◌, true, false, refl, subst, List, [], Option, None, Some}
use Rattle.std.proofs.lemmas.Option.{MatchOption-at_none, MatchOption-at_some}
use Rattle.normal_form.specs.Forms.{form_of}
use Rattle.step_skolem.proofs.Searches.{found_leads, none_found, other_none}
use Rattle.step_skolem.specs.Images.{IsImage}
use Rattle.step_skolem.specs.Searching.{found}
use Rattle.step_skolem.specs.declared.map.SkEntry.{SkEntry}
use Rattle.step_skolem.specs.declared.map.SkMap.{SkMap}
use Rattle.step_skolem.proofs.searching.skolem_image.Goals as goal

not_true : false ≡ true → ⊥
not_true h = cc

pub returns-in-None : goal.returns-in-None
returns-in-None c =
    let o : Option (List SkEntry) = found [] [] 0 0 (form_of c.args.from.now) (form_of c.args.to.now) [] in
    none_found c.args.from.now c.args.to.now (MatchOption-at_none (o ≡ None) (λ (map : SkMap). o ≡ Some map.entries) c.in-None.is c.in_ok-map.ensures)

pub returns-then-nf_eq : goal.returns-then-nf_eq
returns-then-nf_eq c =
    let o : Option (List SkEntry) = found [] [] 0 0 (form_of c.args.from.now) (form_of c.args.to.now) [] in
    let h : o ≡ Some c.in-Some.map.entries = MatchOption-at_some (o ≡ None) (λ (map : SkMap). o ≡ Some map.entries) c.in-Some.map c.in-Some.is c.in_ok-map.ensures in
    subst (IsImage c.args.from.now c.in-Some.map.entries) (c.if-nf_eq.ensures.0 refl)
    (found_leads c.args.from.now c.args.to.now c.in_ok-image-in-Some.image c.in-Some.map.entries h c.in_ok-image-in-Some.ensures)

pub returns-else-nf_eq : goal.returns-else-nf_eq
returns-else-nf_eq c =
    let o : Option (List SkEntry) = found [] [] 0 0 (form_of c.args.from.now) (form_of c.args.to.now) [] in
    let h : o ≡ Some c.in-Some.map.entries = MatchOption-at_some (o ≡ None) (λ (map : SkMap). o ≡ Some map.entries) c.in-Some.map c.in-Some.is c.in_ok-map.ensures in
    other_none c.args.from.now c.args.to.now c.in_ok-image-in-Some.image c.in-Some.map.entries h c.in_ok-image-in-Some.ensures (λ e. not_true (c.if-nf_eq.ensures.1 e))
