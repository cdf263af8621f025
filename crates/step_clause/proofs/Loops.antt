-- The loops over clauses and parents, over plain lists.
use Rattle.std.proofs.Common.{◌≡◌, ◌≤◌, ◌<◌, ◌+◌, ℕ, zero, suc, List, [], ◌∷◌, Some, None, get_or, length, slice_get, subst, arith, refl, sym, ap, ◌∙◌, ◌⊎◌, inl, inr}
use Rattle.std.proofs.lemmas.Bool.Decides.{nat_tests}
use Rattle.std.proofs.lemmas.Option.{slice_get_within}
use Rattle.std.specs.List.{All}
use Rattle.step_clause.specs.declared.justification.Justification.{Justification}
use Rattle.step_clause.specs.Candidates.{IsListBefore}
use Rattle.step_clause.specs.Places.{Among, AmongAt, IsAnswer}

-- no key works at an item below p
abbrev pub NoneUpTo : {X : Type 0} → (X → List ℕ → Type 0) → List X → ℕ → Type 0
NoneUpTo Holds items p = (q : ℕ) (x : _) → q < p → slice_get items q ≡ Some x → (key : List ℕ) → Holds x key → ⊥

or_equal : (k i : ℕ) → k < i + 1 → (k < i) ⊎ (k ≡ i)
or_equal k i m = grind (arith, nat_tests)

module _ (X : Type 0) (Holds : X → List ℕ → Type 0) (IsOf : ℕ → X → Justification → List ℕ → Type 0) (items : List X) where
  same_item : (p : ℕ) (x y : X) → slice_get items p ≡ Some x → slice_get items p ≡ Some y → y ≡ x
  same_item p x y a b = cc

  pub none_more : (p number : ℕ) (x : X) → number ≡ p → slice_get items p ≡ Some x → NoneUpTo Holds items p → IsAnswer (Holds x) (IsOf number x) None → NoneUpTo Holds items (p + 1)
  none_more p number x is at none here q y l at' key h = elim (or_equal q p l) [
    | inl e ↦ none q y e at' key h
    | inr e ↦ here key (subst (λ z. Holds z key) (same_item p x y at (ap (slice_get items) (sym e) ∙ at')) h)
  ]

  pub none_at_all : (p : ℕ) → length items ≤ p → NoneUpTo Holds items p → (key : List ℕ) → Among Holds items key → ⊥
  none_at_all p l none [] h = h
  none_at_all p l none (q ∷ key) h = none q h.0 (let a = slice_get_within items q h.0 h.1 in omega arith) h.1 key h.2

  lowest : (p : ℕ) (x : X) (key : List ℕ) → slice_get items p ≡ Some x → NoneUpTo Holds items p → ((other : List ℕ) → Holds x other → IsListBefore other key → ⊥) → (other : List ℕ) → Among Holds items other → IsListBefore other (p ∷ key) → ⊥
  lowest p x key at none least [] h b = h
  lowest p x key at none least (q ∷ other) h (inl b) = none q h.0 b h.1 other h.2
  lowest p x key at none least (q ∷ other) h (inr b) =
      least other (subst (λ z. Holds z other) (same_item p x h.0 at (ap (slice_get items) (sym b.0) ∙ h.1)) h.2) b.1

  pub found : (p number : ℕ) (x : X) (it : Justification) → number ≡ p → slice_get items p ≡ Some x → NoneUpTo Holds items p → IsAnswer (Holds x) (IsOf number x) (Some it) → IsAnswer (Among Holds items) (λ z. AmongAt (λ q y. IsOf q y z) items) (Some it)
  found p number x it is at none a =
      (p ∷ a.0, (x, at, subst (λ q. IsOf q x it a.0) is a.1), lowest p x a.0 at none a.2)

  pub item_of : (P : X → Type 0) (p : ℕ) (x : X) → All P items → p < length items → x ≡ get_or items p x → P x
  item_of P p x all l is = subst P (sym is) (all p x l)

-- the same fact of the first items, one by one
abbrev pub AllTo : {X : Type 0} → (X → Type 0) → List X → ℕ → Type 0
AllTo P items n = (k : ℕ) (d : _) → k < n → P (get_or items k d)

module _ (X : Type 0) (P : X → Type 0) (items : List X) where
  get_or_default : (xs : List X) (i : ℕ) (d e : X) → i < length xs → get_or xs i d ≡ get_or xs i e
  get_or_default [] i d e l = absurd (omega arith)
  get_or_default (x ∷ xs) zero d e l = refl
  get_or_default (x ∷ xs) (suc i) d e l = get_or_default xs i d e (omega arith)

  pub all_more : (i : ℕ) (x : X) → i < length items → x ≡ get_or items i x → AllTo P items i → P x → AllTo P items (i + 1)
  all_more i x l is all here k d m = elim (or_equal k i m) [
    | inl e ↦ all k d e
    | inr e ↦ subst P (is ∙ get_or_default items i x d l ∙ ap (λ z. get_or items z d) (sym e)) here
  ]

  pub item_at : (i : ℕ) (x : X) → All P items → i < length items → x ≡ get_or items i x → P x
  item_at i x all l is = subst P (sym is) (all i x l)

-- no item below p has the property
abbrev pub NoneTo : {X : Type 0} → (X → Type 0) → List X → ℕ → Type 0
NoneTo P items p = (q : ℕ) (x : _) → q < p → slice_get items q ≡ Some x → P x → ⊥
