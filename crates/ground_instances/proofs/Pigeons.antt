-- A list without repetitions is no longer than one that has all its elements.
use Rattle.std.proofs.Common.{◌≡◌, ◌≤◌, ℕ, zero, suc, List, [], ◌∷◌, ◌++◌, length, Contains, Some, slice_get, length-append, arith, refl, ap, ◌∙◌, subst, inl, inr}
use Rattle.std.proofs.lemmas.List.Elements.{Contains-append_cases, Contains-append_left, Contains-append_right}

-- no element stands at two places
abbrev pub AreOnce : {A : Type 0} → List A → Type 0
AreOnce {A} xs = (j k : ℕ) (x : A) → slice_get xs j ≡ Some x → slice_get xs k ≡ Some x → j ≡ k

split_at : {A : Type 0} (ys : List A) (x : A) → Contains ys x → (front back : List A) × (ys ≡ front ++ x ∷ back)
split_at [] x (k, l, e) = absurd (omega arith)
split_at (y ∷ ys) x (zero, l, e) = ([], ys, ap (λ z. z ∷ ys) e)
split_at (y ∷ ys) x (suc k, l, e) = let r = split_at ys x (k, omega arith, e) in (y ∷ r.0, r.1, ap (λ z. y ∷ z) r.2)

slice_at : {A : Type 0} (xs : List A) (x : A) → Contains xs x → (k : ℕ) × (slice_get xs k ≡ Some x)
slice_at [] x (k, l, e) = absurd (omega arith)
slice_at (y ∷ ys) x (zero, l, e) = (0, ap Some e)
slice_at (y ∷ ys) x (suc k, l, e) = let r = slice_at ys x (k, omega arith, e) in (suc r.0, r.1)

without : {A : Type 0} (front back : List A) (x z : A) → Contains (front ++ x ∷ back) z → (x ≡ z → ⊥) → Contains (front ++ back) z
without front back x z c differs = elim (Contains-append_cases front (x ∷ back) z c) [
  | inl p ↦ Contains-append_left front back z p
  | inr q ↦ Contains-append_right front back z (rest q)
]
  where
    rest : Contains (x ∷ back) z → Contains back z
    rest (zero, l, e) = absurd (differs e)
    rest (suc k, l, e) = (k, omega arith, e)

pub no_longer : {A : Type 0} (xs ys : List A) → AreOnce xs → ((x : A) → Contains xs x → Contains ys x) → length xs ≤ length ys
no_longer [] ys once all = omega arith
no_longer (x ∷ xs) ys once all =
    let s = split_at ys x (all x (0, omega arith, refl)) in
    let front = s.0 in
    let back = s.1 in
    let e = ap length s.2 ∙ length-append front (x ∷ back) in
    let f = length-append front back in
    let shorter = no_longer xs (front ++ back) (λ j k z p q. let h = once (suc j) (suc k) z p q in omega arith)
    (λ z c. let r = slice_at xs z c in
    without front back x z (subst (λ l. Contains l z) s.2 (all z (suc c.0, omega (arith, c.1), c.2)))
    (λ same. let h = once 0 (suc r.0) z (ap Some same) r.1 in omega arith)) in
    omega arith
