-- Induction over the steps of a graph without a cycle, where a parent may be no step.
use Rattle.std.proofs.Common.{◌≡◌, ◌⊎◌, ◌<◌, ◌≤◌, ℕ, zero, suc, nat_lt, Bool, true, false, ◌&&◌, inl, inr, List, [], ◌∷◌, cond, length, map, Contains, refl, sym, ap, ◌∙◌, subst, arith}
use Rattle.std.specs.Prelude.{filter}
use Rattle.std.proofs.Math.ListN.{get_or-eq_default, get_or-map}
use Rattle.std.proofs.lemmas.Bool.Decides.{nat_tests}
use Rattle.std.proofs.lemmas.List.{length-map}
use Rattle.derivation_graph.proofs.OrderExists.{order_exists}
use Rattle.derivation_graph.proofs.OrderLaws.{rank_falls}
use Rattle.derivation_graph.specs.Graphs.{HasNoCycle, HasParent, HasStepsForParents, onward, parents_in, turn, Walks}
use Rattle.derivation_graph.specs.Orders.{HasOrder, place_in}
use Rattle.dk_syntax.specs.Lists.{Every, every_cons, every_nil}

-- ---- members that pass a test

contains_cons : (first q : ℕ) (rest : List ℕ) → Contains (first ∷ rest) q → (first ≡ q) ⊎ Contains rest q
contains_cons first q rest (zero, below, is) = inl is
contains_cons first q rest (suc k, below, is) = inr (k, omega (arith, below), is)

contains_first : (first q : ℕ) (rest : List ℕ) → first ≡ q → Contains (first ∷ rest) q
contains_first first q rest e = (zero, omega arith, e)

contains_later : (first q : ℕ) (rest : List ℕ) → Contains rest q → Contains (first ∷ rest) q
contains_later first q rest h = (suc h.0, omega (arith, h.1), h.2)

of_filter : (test : ℕ → Bool) (l : List ℕ) (q : ℕ) → Contains (filter test l) q → Contains l q × (test q ≡ true)
of_filter test [] q h = absurd (omega (arith, h.1))
of_filter test (n ∷ l) q h = by_test (test n) refl h (λ k. of_filter test l q k)
  where
    by_test : (b : Bool) → test n ≡ b → Contains (cond b (n ∷ filter test l) (filter test l)) q → (Contains (filter test l) q → Contains l q × (test q ≡ true))
        → Contains (n ∷ l) q × (test q ≡ true)
    by_test true e k more = elim (contains_cons n q (filter test l) k) [
      | inl same ↦ (contains_first n q l same, subst (λ x. test x ≡ true) same e)
      | inr later ↦ (let r = more later in (contains_later n q l r.0, r.1))
    ]
    by_test false e k more = let r = more k in (contains_later n q l r.0, r.1)

to_filter : (test : ℕ → Bool) (l : List ℕ) (q : ℕ) → test q ≡ true → Contains l q → Contains (filter test l) q
to_filter test [] q t h = absurd (omega (arith, h.1))
to_filter test (n ∷ l) q t h = elim (contains_cons n q l h) [
  | inl same ↦ subst (λ b. Contains (cond b (n ∷ filter test l) (filter test l)) q) (sym (subst (λ x. test x ≡ true) (sym same) t)) (contains_first n q (filter test l) same)
  | inr later ↦ by_test (test n) (to_filter test l q t later)
]
  where
    by_test : (b : Bool) → Contains (filter test l) q → Contains (cond b (n ∷ filter test l) (filter test l)) q
    by_test true k = contains_later n q (filter test l) k
    by_test false k = k

both_true : (a b : Bool) → (a && b) ≡ true → (a ≡ true) × (b ≡ true)
both_true true b h = (refl, h)
both_true false b h = absurd cc

-- ---- the graph of the steps alone

-- whether the number is below the next after the last, and not 0
abbrev stands : ℕ → ℕ → Bool
stands last q = nat_lt 0 q && nat_lt q (suc last)

within : (last q : ℕ) → stands last q ≡ true → (0 < q) × (q ≤ last)
within last q h =
    let parts = both_true (nat_lt 0 q) (nat_lt q (suc last)) h in
    let low = parts.0 in
    let high = parts.1 in
    let a : 0 < q = grind (arith, nat_tests) in
    let b : q < suc last = grind (arith, nat_tests) in
    (a, omega arith)

outside : (last place : ℕ) → stands last (suc place) ≡ false → last ≤ place
outside last place h = by_test (nat_lt (suc place) (suc last)) refl (sym first ∙ h)
  where
    low : nat_lt 0 (suc place) ≡ true
    low = grind (arith, nat_tests)

    first : (nat_lt 0 (suc place) && nat_lt (suc place) (suc last)) ≡ nat_lt (suc place) (suc last)
    first = ap (λ b. b && nat_lt (suc place) (suc last)) low

    by_test : (b : Bool) → nat_lt (suc place) (suc last) ≡ b → nat_lt (suc place) (suc last) ≡ false → last ≤ place
    by_test true e k = absurd cc
    by_test false e k = grind (arith, nat_tests)

module _ (rows : List (List ℕ)) where
  -- the rows with those parents alone that are steps
  abbrev kept : List (List ℕ)
  kept = map (filter (stands (length rows))) rows

  parents_kept : (i : ℕ) → parents_in kept i ≡ filter (stands (length rows)) (parents_in rows i)
  parents_kept zero = refl
  parents_kept (suc place) = get_or-map (filter (stands (length rows))) rows place []

  of_kept : (i q : ℕ) → HasParent kept i q → HasParent rows i q × (stands (length rows) q ≡ true)
  of_kept i q h = of_filter (stands (length rows)) (parents_in rows i) q (subst (λ l. Contains l q) (parents_kept i) h)

  to_kept : (i q : ℕ) → stands (length rows) q ≡ true → HasParent rows i q → HasParent kept i q
  to_kept i q t h = subst (λ l. Contains l q) (sym (parents_kept i)) (to_filter (stands (length rows)) (parents_in rows i) q t h)

  walk_kept : {i k : ℕ} → Walks kept i k → Walks rows i k
  walk_kept (turn i k h) = turn i k (of_kept i k h).0
  walk_kept (onward i q k h rest) = onward i q k (of_kept i q h).0 (walk_kept rest)

  steps_kept : HasStepsForParents kept
  steps_kept i q h =
      let b = within (length rows) q (of_kept i q h).1 in
      let many = length-map rows (filter (stands (length rows))) in
      (b.0, omega (arith, b.1, many))

  none_without : (q : ℕ) → stands (length rows) q ≡ false → parents_in rows q ≡ []
  none_without zero h = refl
  none_without (suc place) h = get_or-eq_default rows [] {n = place} (outside (length rows) place h)

  module _ (acyclic : HasNoCycle rows) (P : ℕ → Type 0) (next : (i : ℕ) → Every P (parents_in rows i) → P i) where
    order : HasOrder kept
    order = order_exists kept (λ i w. acyclic i (walk_kept w)) steps_kept

    abbrev rank : ℕ → ℕ
    rank q = place_in order.0 q

    falls : (i q : ℕ) → HasParent kept i q → rank q < rank i
    falls i q h = rank_falls kept order.0 i q order.1 h

    every_of : (l : List ℕ) → ((q : ℕ) → Contains l q → P q) → Every P l
    every_of [] h = every_nil
    every_of (n ∷ l) h = every_cons (h n (contains_first n n l refl)) (every_of l (λ q k. h q (contains_later n q l k)))

    alone : (q : ℕ) → stands (length rows) q ≡ false → P q
    alone q h = next q (subst (Every P) (sym (none_without q h)) every_nil)

    below : (n i : ℕ) → rank i < n → P i
    below zero i h = absurd (omega arith)
    below (suc n) i h = next i (every_of (parents_in rows i) (λ q k. by_test q (stands (length rows) q) refl k (λ less. below n q less)))
      where
        by_test : (q : ℕ) (b : Bool) → stands (length rows) q ≡ b → HasParent rows i q → (rank q < n → P q) → P q
        by_test q true e k more = let less = falls i q (to_kept i q e k) in more (omega arith)
        by_test q false e k more = alone q e

    pub by_parents : (i : ℕ) → P i
    by_parents i = below (suc (rank i)) i (omega arith)
