-- Loops over a list that look for an item.
use Rattle.std.proofs.Common.{◌≡◌, ◌<◌, ◌≤◌, ℕ, zero, suc, ◌+◌, List, [], ◌∷◌, length, Some, get_or, slice_get, Contains, subst, refl, sym, ap, ◌∙◌, arith, inl, inr}
use Rattle.std.proofs.lemmas.Option.{slice_get_within}
use Rattle.std.specs.Bool.{OnTrue}
use Rattle.std.specs.Prelude.{Bool, true, false, not, IsTrue, ◌↔◌}
use Rattle.dk_syntax.proofs.ListLaws.{or_equal}
use Rattle.step_chain.proofs.Items.{same_some}
use Rattle.step_chain.proofs.OnceLaws.{at_contains}

-- it is not one of the first k items
abbrev pub NotYet : {X : Type 0} → X → List X → ℕ → Type 0
NotYet x items k = (j : ℕ) → j < k → slice_get items j ≡ Some x → ⊥

pub not_yet_more : {X : Type 0} (x y : X) (items : List X) (k : ℕ) → slice_get items k ≡ Some y → (y ≡ x → ⊥) → NotYet x items k → NotYet x items (k + 1)
not_yet_more x y items k at differs none j less is = elim (or_equal j k less) [
  | inl l ↦ none j l is
  | inr e ↦ differs (same_some (slice_get items k) y x at (subst (λ z. slice_get items z ≡ Some x) e is))
]

pub not_contained : {X : Type 0} (x : X) (items : List X) (k : ℕ) → length items ≤ k → NotYet x items k → Contains items x → ⊥
not_contained x items k less none there = let w = at_contains items x there in none w.0 (let l = slice_get_within items w.0 x w.1 in omega arith) w.1

-- no item before k has the property
abbrev pub NoneTo : {X : Type 0} → (X → Type 0) → List X → ℕ → Type 0
NoneTo P items k = (j : ℕ) (x : _) → j < k → slice_get items j ≡ Some x → P x → ⊥

-- the same fact of the first items, one by one
abbrev pub AllTo : {X : Type 0} → (X → Type 0) → List X → ℕ → Type 0
AllTo P items k = (j : ℕ) (d : _) → j < k → P (get_or items j d)

any_default : {X : Type 0} (xs : List X) (i : ℕ) (d e : X) → i < length xs → get_or xs i d ≡ get_or xs i e
any_default [] i d e less = absurd (omega arith)
any_default (x ∷ xs) zero d e less = refl
any_default (x ∷ xs) (suc i) d e less = any_default xs i d e (omega arith)

pub all_more : {X : Type 0} (P : X → Type 0) (items : List X) (i : ℕ) (x : X) → i < length items → x ≡ get_or items i x → AllTo P items i → P x → AllTo P items (i + 1)
all_more P items i x less is all here j d m = elim (or_equal j i m) [
  | inl e ↦ all j d e
  | inr e ↦ subst P (is ∙ any_default items i x d less ∙ ap (λ z. get_or items z d) (sym e)) here
]

-- a test that is not met
pub on_not : (b : Bool) (A B : Type 0) → A → (IsTrue b ↔ B) → OnTrue (not b) (A × (B → ⊥))
on_not true A B a h = tt
on_not false A B a h = (a, λ x. let w = h.1 x in cc)
