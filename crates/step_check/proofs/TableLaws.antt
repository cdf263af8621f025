-- Tables.
use Rattle.std.proofs.Common.{◌≡◌, ◌≢◌, ◌⊎◌, inl, inr, ℕ, zero, suc, List, [], ◌∷◌, ◌++◌, Option, Some, None, get_or, refl, sym, ap, ◌∙◌, subst}
use Rattle.std.proofs.lemmas.Bool.{cases_eq}
use Rattle.step_check.specs.Tables.{AreRight, at, Keeps}

-- a place more, at which nothing stands
pub at_more : {A : Type 0} (slots : List (Option A)) (i : ℕ) → at (slots ++ None ∷ []) i ≡ at slots i
at_more [] zero = refl
at_more [] (suc i) = refl
at_more (slot ∷ slots) zero = refl
at_more (slot ∷ slots) (suc i) = at_more slots i

pub same_some : {A : Type 0} (x : Option A) (a b : A) → x ≡ Some a → x ≡ Some b → a ≡ b
same_some x a b h k = cc

-- what is right stays so where one more right item is put
pub right_put : {A : Type 0} (IsRight : ℕ → A → Type 0) (old new : List (Option A)) (n : ℕ) (item : A) → AreRight IsRight old → IsRight n item
    → at new n ≡ Some item → ((other : ℕ) → other ≢ n → at new other ≡ at old other) → AreRight IsRight new
right_put {A = A} IsRight old new n item known right there others i x h = elim (cases_eq i n) [
  | inl same ↦
      let e : x ≡ item = same_some (at new n) x item (subst (λ k. at new k ≡ Some x) same h) there in
      subst (λ k. IsRight k x) (sym same) (subst (λ (y : A). IsRight n y) (sym e) right)
  | inr other ↦ known i x (sym (others i other) ∙ h)
]

-- what stood stands still where nothing stood at that number
pub keeps_put : {A : Type 0} (old new : List (Option A)) (n : ℕ) → at old n ≡ None → ((other : ℕ) → other ≢ n → at new other ≡ at old other) → Keeps old new
keeps_put old new n empty others i x h = elim (cases_eq i n) [
  | inl same ↦ absurd (none_some (at old n) x empty (subst (λ k. at old k ≡ Some x) same h))
  | inr other ↦ others i other ∙ h
]
  where
    none_some : {A : Type 0} (slot : Option A) (x : A) → slot ≡ None → slot ≡ Some x → ⊥
    none_some slot x h k = cc
