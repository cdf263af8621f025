-- The weight of a list is one, and is counted from its rows.
use Rattle.std.proofs.Common.{◌≡◌, ◌<◌, ◌≤◌, ◌+◌, ℕ, zero, suc, List, [], ◌∷◌, length, sum_by, All, Some, slice_get, arith, refl, sym, ap, ◌∙◌, subst, inl, inr}
use Rattle.std.proofs.lemmas.List.{length-map}
use Rattle.std.proofs.lemmas.List.Sums.{sum_by-cons}
use Rattle.dk_syntax.proofs.ListLaws.{or_equal}
use Rattle.dk_syntax.specs.Depth.{capped}
use Rattle.dk_syntax.specs.declared.clause.Literal.{Literal}
use Rattle.dk_syntax.specs.declared.term.Term.{Term}
use Rattle.ground_instances.proofs.Pigeons.{no_longer}
use Rattle.ground_instances.specs.Instances.{clauses_in, IsFirstWide, IsWide}
use Rattle.ground_instances.specs.Rows.{instances_by, literal_by, literals_by, written}
use Rattle.ground_instances.specs.Weights.{AreTermsOf, IsWeight, literals_in, weight_by}
use Rattle.ground_instances.specs.declared.instance.Instance.{Instance}
use Rattle.ground_instances.specs.declared.instance.Row.{Row}

-- two lists of the terms of some clauses are as long as each other
pub as_many : (clauses : List (List Literal)) (a b : List Term) → AreTermsOf clauses a → AreTermsOf clauses b → length a ≡ length b
as_many clauses a b p q =
    let less = no_longer a b p.once (λ t c. (q.same t).1 ((p.same t).0 c)) in
    let more = no_longer b a q.once (λ t c. (p.same t).1 ((q.same t).0 c)) in
    omega arith

pub one_weight : (clauses : List (List Literal)) (table : List Term) (weight : ℕ) → AreTermsOf clauses table → IsWeight clauses weight → weight ≡ weight_by clauses table
one_weight clauses table weight exact (terms, terms_of, is) = let e = as_many clauses terms table terms_of exact in omega arith

abbrev pub literals_of : Row → ℕ
literals_of row = length row.lits

pub literals_counted : (table : List Term) (rows : List Row) → literals_in (clauses_in (instances_by table rows)) ≡ sum_by literals_of rows
literals_counted table [] = refl
literals_counted table (row ∷ rows) =
    let a = sum_by-cons (λ (l : List Literal). length l) (literals_by table row.lits) (clauses_in (instances_by table rows)) in
    let b = sum_by-cons literals_of row rows in
    let c = length-map row.lits (literal_by table) in
    let d = literals_counted table rows in
    omega arith

pub weight_counted : (table : List Term) (rows : List Row) → weight_by (clauses_in (instances_by table rows)) table ≡ length rows + (sum_by literals_of rows + length table)
weight_counted table rows =
    let a = literals_counted table rows in
    let b = length-map (instances_by table rows) (λ (x : Instance). x.lits) in
    let c = length-map rows (written table) in
    omega arith

-- what the program counts, each sum up to the greatest number of its type
pub weight_result : (table : List Term) (rows : List Row) (literals some all : ℕ) → literals ≡ capped (sum_by literals_of rows) → some ≡ capped (literals + length table)
    → all ≡ capped (length rows + some) → all ≡ capped (weight_by (clauses_in (instances_by table rows)) table)
weight_result table rows literals some all a b d = let w = weight_counted table rows in omega arith

-- ---- wide instances

instance_at : (table : List Term) (rows : List Row) (k : ℕ) (row : Row) → slice_get rows k ≡ Some row → slice_get (instances_by table rows) k ≡ Some (written table row)
instance_at table [] k row e = cc
instance_at table (x ∷ xs) zero row e = let same : x ≡ row = cc in ap (λ z. Some (written table z)) same
instance_at table (x ∷ xs) (suc k) row e = instance_at table xs k row e

row_at : (table : List Term) (rows : List Row) (k : ℕ) (it : Instance) → slice_get (instances_by table rows) k ≡ Some it → (row : Row) × (slice_get rows k ≡ Some row) × (written table row ≡ it)
row_at table [] k it e = absurd (cc)
row_at table (x ∷ xs) zero it e = (x, refl, cc)
row_at table (x ∷ xs) (suc k) it e = row_at table xs k it e

pub none_wide : (table : List Term) (rows : List Row) → ((k : ℕ) (row : Row) → k < length rows → slice_get rows k ≡ Some row → IsWide (written table row) → ⊥)
    → All (λ it. IsWide it → ⊥) (instances_by table rows)
none_wide table [] none k d l = absurd (omega arith)
none_wide table (x ∷ xs) none zero d l = none 0 x (omega arith) refl
none_wide table (x ∷ xs) none (suc k) d l = none_wide table xs (λ j row m e. none (suc j) row (omega arith) e) k d (omega arith)

pub first_is_wide : (table : List Term) (rows : List Row) (k : ℕ) (row : Row) → slice_get rows k ≡ Some row → IsWide (written table row)
    → ((j : ℕ) (other : Row) → j < k → slice_get rows j ≡ Some other → IsWide (written table other) → ⊥) → IsFirstWide (instances_by table rows) row.step
first_is_wide table rows k row at wide none = (
  k,
  written table row,
  instance_at table rows k row at,
  wide,
  refl,
  λ j other l e w. let r = row_at table rows j other e in none j r.0 l r.1 (subst IsWide (sym r.2) w),
)

pub instance_there : (table : List Term) (rows : List Row) (k : ℕ) (row : Row) (it : Instance) → slice_get rows k ≡ Some row → it ≡ written table row
    → slice_get (instances_by table rows) k ≡ Some it
instance_there table rows k row it at is = instance_at table rows k row at ∙ ap Some (sym is)

-- a weight that passes the limit when it is counted
pub wide_from : (weight counted : ℕ) → counted ≡ capped weight → 1000000 < counted → 1000000 < weight
wide_from weight counted e l = omega arith

pub narrow_from : (weight counted : ℕ) → counted ≡ capped weight → counted ≤ 1000000 → 1000000 < weight → ⊥
narrow_from weight counted e l wide = omega arith

-- one more row that isn't wide
pub none_more : (table : List Term) (rows : List Row) (n : ℕ) (last : Row) → slice_get rows n ≡ Some last → (IsWide (written table last) → ⊥)
    → ((k : ℕ) (row : Row) → k < n → slice_get rows k ≡ Some row → IsWide (written table row) → ⊥)
    → (k : ℕ) (row : Row) → k < n + 1 → slice_get rows k ≡ Some row → IsWide (written table row) → ⊥
none_more table rows n last at narrow before k row less here wide = elim (or_equal k n (omega arith)) [
  | inl p ↦ before k row p here wide
  | inr p ↦ narrow (subst (λ (x : Row). IsWide (written table x)) (same p) wide)
]
  where
    same : k ≡ n → row ≡ last
    same e = let at' : slice_get rows k ≡ Some last = ap (slice_get rows) e ∙ at in cc
