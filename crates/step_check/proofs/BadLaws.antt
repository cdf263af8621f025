-- Bad steps.
use Rattle.std.proofs.Common.{◌≡◌, ℕ, ◌+◌, ◌<◌, ◌≤◌, ◌⊎◌, inl, inr, true, false, List, length, get_or, slice_get, Some, sym, ◌∙◌, ap, refl, arith}
use Rattle.std.proofs.lemmas.Bool.{cases_lt, false≢true}
use Rattle.std.proofs.lemmas.Option.{same_Some, slice_get_read, slice_get_within}
use Rattle.step_check.specs.Freshness.{is_bad, IsBadAt, IsFirstBad}
use Rattle.step_check.specs.declared.verdict.Verdict.{Verdict}

module _ (list : List Verdict) where
  module _ (place : ℕ) (verdict : Verdict) (below : place < length list) (is : verdict ≡ get_or list place verdict) (sooner : (k : ℕ) → k < place → IsBadAt list k → ⊥) where
    here : slice_get list place ≡ Some verdict
    here = slice_get_read list (length list) place verdict refl below is

    pub first_here : is_bad verdict ≡ true → IsFirstBad list (Some (place + 1))
    first_here bad = (place, refl, (verdict, here, bad), sooner)

    pub none_here : is_bad verdict ≡ false → (k : ℕ) → k < place + 1 → IsBadAt list k → ⊥
    none_here fine k less bad = by_place (cases_lt k place)
      where
        by_place : (k < place) ⊎ (place ≤ k) → ⊥
        by_place (inl before) = sooner k before bad
        by_place (inr after) =
            let e : place ≡ k = omega (arith, less, after) in
            let same : verdict ≡ bad.0 = same_Some verdict bad.0 (sym here ∙ (ap (slice_get list) e ∙ bad.1)) in
            false≢true (sym fine ∙ (ap is_bad same ∙ bad.2))

  pub none_at_all : (n : ℕ) → length list ≤ n → ((k : ℕ) → k < n → IsBadAt list k → ⊥) → (k : ℕ) → IsBadAt list k → ⊥
  none_at_all n all none k bad = none k (let less = slice_get_within list k bad.0 bad.1 in omega (arith, less, all)) bad
