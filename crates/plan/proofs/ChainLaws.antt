-- What a chained map has of the maps that it joins.
use Rattle.std.proofs.Common.{◌≡◌, ◌⊎◌, ℕ, suc, ◌+◌, nat_lt, Bool, true, false, List, [], ◌∷◌, map, cond, refl, ap, inl, inr, arith}
use Rattle.dk_syntax.specs.Symbols.{same_symbol}
use Rattle.dk_syntax.specs.declared.symbol.SymKey.{SymKey}
use Rattle.plan.proofs.Counts.{count, names, tick}
use Rattle.plan.proofs.Membership.{Among}
use Rattle.step_skolem.specs.Chaining.{chained, joined_at, joined_from, raised}
use Rattle.step_skolem.specs.declared.map.SkEntry.{SkEntry}

-- ---- counts

names_raised : (r : ℕ) (next : List SkEntry) → names (map (raised r) next) ≡ names next
names_raised r [] = refl
names_raised r (one ∷ next) = ap (λ l. one.symbol ∷ l) (names_raised r next)

count_at : (x : SymKey) (r : ℕ) (one : SkEntry) (next : List SkEntry) (c : ℕ) (join : List SkEntry → List SkEntry)
    → ((l : List SkEntry) → count x (names (join l)) ≡ c + count x (names l))
    → count x (names (joined_at r one join next)) ≡ tick (same_symbol x one.symbol) + c + count x (names next)
count_at x r one [] c join w = omega (arith, w [])
count_at x r one (other ∷ next) c join w = by_test (nat_lt (other.ex + r) one.ex) (count_at x r one next c join w)
  where
    by_test : (t : Bool) → count x (names (joined_at r one join next)) ≡ tick (same_symbol x one.symbol) + c + count x (names next)
        → count x (names (cond t (raised r other ∷ joined_at r one join next) (one ∷ join (other ∷ next))))
        ≡ tick (same_symbol x one.symbol) + c + count x (names (other ∷ next))
    by_test true more = omega (arith, more)
    by_test false more = omega (arith, w (other ∷ next))

count_from : (x : SymKey) (r : ℕ) (first next : List SkEntry) → count x (names (joined_from r first next)) ≡ count x (names first) + count x (names next)
count_from x r [] next = let e = ap (count x) (names_raised r next) in omega (arith, e)
count_from x r (one ∷ first) next = count_at x r one next (count x (names first)) (joined_from (suc r) first) (λ l. count_from x (suc r) first l)

-- a symbol stands in the chained map as often as in both maps together
pub count_chained : (x : SymKey) (first next : List SkEntry) → count x (names (chained first next)) ≡ count x (names first) + count x (names next)
count_chained x first next = count_from x 0 first next

-- ---- entries

gains_at : (r : ℕ) (one : SkEntry) (next : List SkEntry) (join : List SkEntry → List SkEntry) (y : SkEntry)
    → (one ≡ y) ⊎ ((l : List SkEntry) → Among (join l) y) → Among (joined_at r one join next) y
gains_at r one [] join y (inl h) = inl h
gains_at r one [] join y (inr h) = inr (h [])
gains_at r one (other ∷ next) join y h = by_test (nat_lt (other.ex + r) one.ex) (gains_at r one next join y h) h
  where
    by_test : (t : Bool) → Among (joined_at r one join next) y → (one ≡ y) ⊎ ((l : List SkEntry) → Among (join l) y) → Among (cond t (raised r other ∷ joined_at r one join next) (one ∷ join (other ∷ next))) y
    by_test true more k = inr more
    by_test false more (inl k) = inl k
    by_test false more (inr k) = inr (k (other ∷ next))

gains_from : (r : ℕ) (first next : List SkEntry) (y : SkEntry) → Among first y → Among (joined_from r first next) y
gains_from r [] next y h = absurd h
gains_from r (one ∷ first) next y (inl h) = gains_at r one next (joined_from (suc r) first) y (inl h)
gains_from r (one ∷ first) next y (inr h) = gains_at r one next (joined_from (suc r) first) y (inr (λ l. gains_from (suc r) first l y h))

-- the chained map has the entries of the first
pub gains : (first next : List SkEntry) (y : SkEntry) → Among first y → Among (chained first next) y
gains first next y h = gains_from 0 first next y h

-- the entry is one of the list's but for the number of its existential
abbrev pub Renumbers : List SkEntry → SkEntry → Type 0
Renumbers next y = (other : SkEntry) × Among next other × (other.symbol ≡ y.symbol) × (other.args ≡ y.args)

later : (other : SkEntry) (next : List SkEntry) (y : SkEntry) → Renumbers next y → Renumbers (other ∷ next) y
later other next y h = (h.0, inr h.1, h.2, h.3)

renumbers : (r : ℕ) (next : List SkEntry) (y : SkEntry) → Among (map (raised r) next) y → Renumbers next y
renumbers r [] y h = absurd h
renumbers r (other ∷ next) y (inl h) = (other, inl refl, ap (λ (x : SkEntry). x.symbol) h, ap (λ (x : SkEntry). x.args) h)
renumbers r (other ∷ next) y (inr h) = later other next y (renumbers r next y h)

comes_at : (r : ℕ) (one : SkEntry) (first next : List SkEntry) (join : List SkEntry → List SkEntry) (y : SkEntry)
    → ((l : List SkEntry) → Among (join l) y → Among first y ⊎ Renumbers l y) → Among (joined_at r one join next) y → Among (one ∷ first) y ⊎ Renumbers next y
comes_at r one first [] join y w (inl h) = inl (inl h)
comes_at r one first [] join y w (inr h) = elim (w [] h) [ inl l ↦ inl (inr l) | inr k ↦ inr k ]
comes_at r one first (other ∷ next) join y w h = by_test (nat_lt (other.ex + r) one.ex) (λ k. comes_at r one first next join y w k) h
  where
    by_test : (t : Bool) → (Among (joined_at r one join next) y → Among (one ∷ first) y ⊎ Renumbers next y)
        → Among (cond t (raised r other ∷ joined_at r one join next) (one ∷ join (other ∷ next))) y → Among (one ∷ first) y ⊎ Renumbers (other ∷ next) y
    by_test true more (inl k) = inr (other, inl refl, ap (λ (x : SkEntry). x.symbol) k, ap (λ (x : SkEntry). x.args) k)
    by_test true more (inr k) = elim (more k) [ inl l ↦ inl l | inr n ↦ inr (later other next y n) ]
    by_test false more (inl k) = inl (inl k)
    by_test false more (inr k) = elim (w (other ∷ next) k) [ inl l ↦ inl (inr l) | inr n ↦ inr n ]

comes_from : (r : ℕ) (first next : List SkEntry) (y : SkEntry) → Among (joined_from r first next) y → Among first y ⊎ Renumbers next y
comes_from r [] next y h = inr (renumbers r next y h)
comes_from r (one ∷ first) next y h = comes_at r one first next (joined_from (suc r) first) y (λ l. comes_from (suc r) first l y) h

-- each entry is one of the first map's, or one of the second map's but for its number
pub comes : (first next : List SkEntry) (y : SkEntry) → Among (chained first next) y → Among first y ⊎ Renumbers next y
comes first next y h = comes_from 0 first next y h
