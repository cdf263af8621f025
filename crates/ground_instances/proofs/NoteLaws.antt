-- Laws of what is noted of steps.
use Rattle.std.proofs.Common.{◌≡◌, ℕ, Bool, true, false, cond, nat_eq, [], ◌∷◌, Some, refl, sym, ap, ◌∙◌, subst}
use Rattle.std.specs.HashMap.{get}
use Rattle.std.proofs.lemmas.Bool.{eqb-true}
use Rattle.normal_form.specs.Normal.{normal_of}
use Rattle.normal_form.specs.declared.form.Nf.{Nf}
use Rattle.step_check.specs.Steps.{step_in}
use Rattle.step_check.specs.declared.verdict.Verdict.TheVariants.{Structural}
use Rattle.step_skolem.specs.Images.{IsImage}
use Rattle.step_skolem.specs.declared.map.SkMap.{SkMap}
use Rattle.tstp_trace.specs.declared.step.Step.{Step}
use Rattle.ground_instances.proofs.OneVisit.{not_own, own_leaf, same_item, same_some}
use Rattle.ground_instances.specs.Keys.{Has, image, IsBase, IsLeafBase, itself, Judged, own, parents_at, Stands, through}
use Rattle.ground_instances.specs.Notes.{AreRight, HasImages, HasOwn, IsNote, Known}
use Rattle.ground_instances.specs.declared.notes.Note.{Note}

abbrev note : Nf → ℕ → Bool → Note
note form base leaf = record { form = form; base = base; is_leaf = leaf }

module _ (judged : Judged) where
  pub own_is_note : (i : ℕ) (sign leaf : Bool) (step : Step) (form : Nf) → HasOwn judged i sign leaf → step_in judged.steps i ≡ Some step
      → form ≡ normal_of step.formula sign → IsNote judged i (note form i leaf)
  own_is_note i sign leaf step form has at is = record {
    form = subst (λ x. Stands judged i x) (ap (normal_of step.formula) has.signed ∙ sym is) (own i step has.verdict has.here has.base at);
    base = itself i has.verdict has.here has.base;
    leaf = λ e. (i, has.verdict, itself i has.verdict has.here has.base, has.here, has.leaf e);
    other = λ e l. has.other e (own_leaf judged i has.verdict has.here has.base l);
  }

  module _ (i q : ℕ) (m : SkMap) (here : Has judged i (Structural m)) (one : parents_at judged i ≡ q ∷ []) where
    above_base : {b : ℕ} → IsBase judged i b → IsBase judged q b
    above_base (itself _ v h is_own) = absurd (not_own judged i v m h here is_own)
    above_base (through _ p b m' h parent base) = subst (λ x. IsBase judged x b) (same_item (parents_at judged i) p q parent one) base

    pub leaf_through : IsLeafBase judged q → IsLeafBase judged i
    leaf_through (b, v, base, at, leaf) = (b, v, through i q b m here one base, at, leaf)

    pub leaf_above : IsLeafBase judged i → IsLeafBase judged q
    leaf_above (b, v, base, at, leaf) = (b, v, above_base base, at, leaf)

    pub image_is_note : (above : Note) (form : Nf) → HasImages judged → IsNote judged q above
        → ((s : Nf) → IsImage above.form m.entries s → form ≡ s) → IsNote judged i (note form above.base above.is_leaf)
    image_is_note above form images is unique =
        let found = images i q above.form m here one is.form in
        record {
          form = subst (λ x. Stands judged i x) (sym (unique found.0 found.1)) (image i q above.form found.0 m here one is.form found.1);
          base = through i q above.base m here one is.base;
          leaf = λ e. leaf_through (is.leaf e);
          other = λ e l. is.other e (leaf_above l);
        }

-- one more item that is right
pub right_more : {X : Type 0} (Is : ℕ → X → Type 0) (old new : Known X) (k : ℕ) (x : X) → AreRight Is old → Is k x
    → ((q : ℕ) → get nat_eq new q ≡ cond (nat_eq k q) (Some x) (get nat_eq old q)) → AreRight Is new
right_more Is old new k x right is updates i y at = by_test (nat_eq k i) refl
  where
    by_test : (b : Bool) → nat_eq k i ≡ b → Is i y
    by_test true e =
        let same = same_some (Some x) x y refl (sym (ap (λ b. cond b (Some x) (get nat_eq old i)) e) ∙ sym (updates i) ∙ at) in
        subst (λ z. Is i z) same (subst (λ n. Is n x) (eqb-true k i e) is)
    by_test false e = right i y (sym (ap (λ b. cond b (Some x) (get nat_eq old i)) e) ∙ sym (updates i) ∙ at)
