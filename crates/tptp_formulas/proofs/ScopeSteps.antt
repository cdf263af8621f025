-- Names that are added and left out, part by part.
use Rattle.std.proofs.Common.{◌≡◌, ℕ, Bool, true, false, if◌then◌else◌, List, [], ◌∷◌, ◌++◌, refl, ap, ◌∙◌, append_assoc, append-nil}
use Rattle.std.proofs.lemmas.Grind.{common_steps}
use Rattle.tptp_formulas.specs.FewNames.{few_names, with_few}
use Rattle.tptp_formulas.specs.Scopes.{Names, has_name, unbound}
use Rattle.tptp_formulas.specs.declared.raw.Raw.{the_lemmas as of_raw}
use Rattle.tptp_formulas.specs.declared.raw.RawTerm.{the_lemmas as of_raw_terms}

-- names may be added in two parts
pub few_names-append : (seen xs ys : Names) → few_names seen (xs ++ ys) ≡ few_names (few_names seen xs) ys
few_names-append seen [] ys = refl
few_names-append seen (x ∷ xs) ys = few_names-append (with_few seen x) xs ys

unbound-cons : (b : Bool) (x : List ℕ) (us us' : Names) → us ≡ us' → (if b then us else x ∷ us) ≡ (if b then us' else x ∷ us')
unbound-cons true x us us' e = e
unbound-cons false x us us' e = ap (λ (zs : Names). x ∷ zs) e

unbound-split : (b : Bool) (x : List ℕ) (us vs : Names) → (if b then us ++ vs else x ∷ (us ++ vs)) ≡ (if b then us else x ∷ us) ++ vs
unbound-split true x us vs = refl
unbound-split false x us vs = refl

-- names may be left out in two parts
pub unbound-append : (bound xs ys : Names) → unbound bound (xs ++ ys) ≡ unbound bound xs ++ unbound bound ys
unbound-append bound [] ys = refl
unbound-append bound (x ∷ xs) ys =
    unbound-cons (has_name bound x) x (unbound bound (xs ++ ys)) (unbound bound xs ++ unbound bound ys) (unbound-append bound xs ys)
    ∙ unbound-split (has_name bound x) x (unbound bound xs) (unbound bound ys)

pub ruleset scope_steps = (common_steps, append_assoc, append-nil, few_names-append, unbound-append, of_raw, of_raw_terms)
