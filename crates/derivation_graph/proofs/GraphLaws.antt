-- In the rows of nodes that have their parents every parent is a step.
use Rattle.std.proofs.Common.{◌≡◌, ℕ, zero, suc, ◌+◌, ◌<◌, ◌≤◌, Bool, true, false, nat_eq, nat_lt, cond, List, [], ◌∷◌, Some, None, length, map, slice_get, get_or, Contains, inl, inr, refl, subst, sym, arith}
use Rattle.std.proofs.lemmas.Bool.{eqb-false, ltb-true}
use Rattle.std.proofs.lemmas.List.{length-map}
use Rattle.std.proofs.lemmas.Option.{none-some, same_Some, slice_get_within}
use Rattle.std.specs.Prelude.{find}
use Rattle.std.specs.List.{position_or_len}
use Rattle.std.specs.Option.{option_map_or}
use Rattle.std.specs.Cmp.Lexicographic.{pointwise}
use Rattle.derivation_graph.specs.Graphs.{HasParents, HasStepsForParents, is_missing, names_of, number_of, numbers_of, rows_of}
use Rattle.derivation_graph.specs.declared.graph.Node.{Node}
use Rattle.derivation_graph.proofs.Members.{contains_cons, none_in_nothing}

-- a number is at most that of the last step
number_bound : (names : List (List ℕ)) (name : List ℕ) → number_of names name ≤ length names
number_bound names name = by_test (nat_lt (position_or_len (pointwise nat_eq name) names) (length names)) refl
  where
    by_test : (b : Bool) → nat_lt (position_or_len (pointwise nat_eq name) names) (length names) ≡ b
        → option_map_or (λ place. place + 1) (cond b (Some (position_or_len (pointwise nat_eq name) names)) None) 0 ≤ length names
    by_test true e = let l = ltb-true (position_or_len (pointwise nat_eq name) names) (length names) e in omega arith
    by_test false e = omega arith

-- what stands in a row is a parent of the row's step
row_at : (f : Node → List ℕ) (nodes : List Node) (place parent : ℕ) → Contains (get_or (map f nodes) place []) parent → (node : Node) × (slice_get nodes place ≡ Some node) × Contains (f node) parent
row_at f [] place parent h = absurd (none_in_nothing parent h)
row_at f (node ∷ nodes) zero parent h = (node, refl, h)
row_at f (node ∷ nodes) (suc place) parent h = row_at f nodes place parent h

-- a member of what is made of a list is made of one of its items
made_of : (f : List ℕ → ℕ) (xs : List (List ℕ)) (y : ℕ) → Contains (map f xs) y → (k : ℕ) × (x : List ℕ) × (slice_get xs k ≡ Some x) × (f x ≡ y)
made_of f [] y h = absurd (none_in_nothing y h)
made_of f (x ∷ xs) y h = elim (contains_cons (f x) y (map f xs) h) [
  | inl same ↦ (zero, x, refl, same)
  | inr later ↦ let r = made_of f xs y later in (suc r.0, r.1, r.2, r.3)
]

-- where no item passes, each one fails
each_fails : (test : List ℕ → Bool) (xs : List (List ℕ)) (k : ℕ) (x : List ℕ) → find test xs ≡ None → slice_get xs k ≡ Some x → test x ≡ false
each_fails test [] k x none here = absurd (none-some x here)
each_fails test (y ∷ ys) zero x none here = by_test (test y) refl none
  where
    by_test : (b : Bool) → test y ≡ b → cond b (Some y) (find test ys) ≡ None → test x ≡ false
    by_test true e n = absurd (none-some y (sym n))
    by_test false e n = subst (λ z. test z ≡ false) (same_Some y x here) e
each_fails test (y ∷ ys) (suc k) x none here = by_test (each_fails test ys k x) (test y) none
  where
    by_test : (find test ys ≡ None → slice_get ys k ≡ Some x → test x ≡ false) → (b : Bool) → cond b (Some y) (find test ys) ≡ None → test x ≡ false
    by_test later true n = absurd (none-some y (sym n))
    by_test later false n = later n here

-- so every parent is a step
pub rows_stand : (nodes : List Node) → HasParents nodes → HasStepsForParents (rows_of nodes)
rows_stand nodes sound zero parent h = absurd (none_in_nothing parent h)
rows_stand nodes sound (suc place) parent h =
    let names = names_of nodes in
    let row = row_at (numbers_of names) nodes place parent h in
    let made = made_of (number_of names) row.0.parents parent row.2 in
    let there = sound place row.0 (slice_get_within nodes place row.0 row.1) row.1 in
    let positive = eqb-false (number_of names made.1) 0 (each_fails (is_missing names) row.0.parents made.0 made.1 there made.2) in
    let bound = number_bound names made.1 in
    let names_long = length-map nodes (λ (node : Node). node.name) in
    let rows_long = length-map nodes (numbers_of names) in
    let is = made.3 in
    let low : 0 < parent = subst (λ n. 0 < n) is (omega arith) in
    let high : parent ≤ length (rows_of nodes) = subst (λ n. n ≤ length (rows_of nodes)) is (omega arith) in
    (low, high)
