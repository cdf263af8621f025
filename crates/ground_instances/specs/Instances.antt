-- The instances of a root with their clauses, and what is answered of them.
use Rattle.std.specs.Prelude.{◌≡◌, ℕ, ◌+◌, ◌<◌, ◌≤◌, List, [], ◌∷◌, map, length, slice_get, Some, Result, Ok, Err}
use Rattle.std.specs.List.{All}
use Rattle.dk_syntax.specs.Terms.{instance}
use Rattle.dk_syntax.specs.declared.clause.Clause.{Clause}
use Rattle.dk_syntax.specs.declared.clause.Literal.{Literal}
use Rattle.ground_instances.specs.Keys.{IsClauseOf, Judged, Key, key}
use Rattle.ground_instances.specs.Needs.{AreNeeded, Needs, value_in}
use Rattle.ground_instances.specs.Weights.{IsWeight, tree_weight}
use Rattle.ground_instances.specs.declared.instance.Instance.{Instance}
use Rattle.ground_instances.specs.declared.instance.PullFault.{PullFault}
use Rattle.ground_instances.specs.declared.instance.PullFault.TheVariants.{Memory, OverWeight, OverWide}

-- ---- instances

-- each of the numbers is that of the instance in the list
abbrev pub AreNumbers : List Key → List Key → List ℕ → Type 0
AreNumbers list [] [] = Unit {0}
AreNumbers list [] (n ∷ numbers) = ⊥
AreNumbers list (one ∷ needs) [] = ⊥
AreNumbers list (one ∷ needs) (n ∷ numbers) = (slice_get list n ≡ Some one) × AreNumbers list needs numbers

-- the name of the instance
abbrev pub key_of : Instance → Key
key_of it = key it.step it.stage it.clause it.terms

-- the instance has the ground clause of its name and the numbers of those that it needs
pub record IsInstance (judged : Judged) (list : List Key) (it : Instance) : Type 0 where
  pub clause : Clause
  pub of : IsClauseOf judged (key_of it) clause
  pub each : length it.terms ≡ clause.vars
  pub lits : it.lits ≡ map (instance (value_in it.terms)) clause.lits
  pub needed : List Key
  pub needs : Needs judged (key_of it) needed
  pub numbers : AreNumbers list needed it.needs

-- the names of the instances
abbrev pub keys_of : List Instance → List Key
keys_of instances = map key_of instances

-- the instances that the root needs, in order
pub record AreInstances (judged : Judged) (root : ℕ) (instances : List Instance) : Type 0 where
  pub needed : AreNeeded judged root (keys_of instances)
  pub each : All (IsInstance judged (keys_of instances)) instances

-- no instance stands at two places
abbrev pub AreDifferent : List Instance → Type 0
AreDifferent instances =
    (j k : ℕ) (one other : Instance) → slice_get instances j ≡ Some one → slice_get instances k ≡ Some other → key_of one ≡ key_of other → j ≡ k

-- each instance comes after those that it needs
abbrev pub HasNeedsBefore : List Instance → Type 0
HasNeedsBefore instances = (n : ℕ) (it : Instance) → slice_get instances n ≡ Some it → All (λ need. need < n) it.needs

-- the last instance is that of the root's empty clause
abbrev pub EndsIn : ℕ → List Instance → Type 0
EndsIn root instances = (n : ℕ) × (it : Instance) × (length instances ≡ n + 1) × (slice_get instances n ≡ Some it) × (key_of it ≡ key root 0 0 [])

-- ---- weights

-- the clauses of the instances
abbrev pub clauses_in : List Instance → List (List Literal)
clauses_in instances = map (λ it. it.lits) instances

-- the tree weight is above 1,000,000
abbrev pub IsWide : Instance → Type 0
IsWide it = 1000000 < tree_weight it.lits

-- the first instance that is wide is of that step
abbrev pub IsFirstWide : List Instance → ℕ → Type 0
IsFirstWide instances step =
    (n : ℕ) × (it : Instance) × (slice_get instances n ≡ Some it) × IsWide it × (it.step ≡ step)
    × ((m : ℕ) (other : Instance) → m < n → slice_get instances m ≡ Some other → IsWide other → ⊥)

-- the instances of the root weigh more than the limit
abbrev pub IsOverWeight : Judged → ℕ → ℕ → Type 0
IsOverWeight judged root limit =
    (instances : List Instance) (weight : ℕ) → AreInstances judged root instances → IsWeight (clauses_in instances) weight → limit < weight

-- the instances weigh no more than the limit
abbrev pub IsWithinWeight : List Instance → ℕ → Type 0
IsWithinWeight instances limit = (weight : ℕ) × IsWeight (clauses_in instances) weight × (weight ≤ limit)

-- ---- the answer

-- the instances of the root, or the first refusal
abbrev pub IsPullAnswer : Judged → ℕ → ℕ → Result (List Instance) PullFault → Type 0
IsPullAnswer judged root limit (Ok instances) =
    AreInstances judged root instances × IsWithinWeight instances limit × All (λ it. IsWide it → ⊥) instances
IsPullAnswer judged root limit (Err (OverWeight over)) = (over ≡ limit) × IsOverWeight judged root limit
IsPullAnswer judged root limit (Err (OverWide step)) =
    (instances : List Instance) × AreInstances judged root instances × IsWithinWeight instances limit × IsFirstWide instances step
IsPullAnswer judged root limit (Err Memory) = Unit {0}
