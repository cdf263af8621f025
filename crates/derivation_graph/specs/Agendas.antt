-- Which steps may be listed next, and what keeps the others from it. Only private contracts cite these words.
use Rattle.std.specs.Prelude.{◌≡◌, ℕ, ◌+◌, ◌⊎◌, Bool, true, false, List, [], length, get_or, Contains}
use Rattle.std.specs.BTreeSet.{BTreeSet, contains}
use Rattle.std.specs.Ordering.{nat_cmp}
use Rattle.derivation_graph.specs.Graphs.{IsStep, HasParent}
use Rattle.derivation_graph.specs.Orders.{ComeAfter}

-- The set has the number.
abbrev pub IsIn : BTreeSet ℕ → ℕ → Type 0
IsIn set n = contains nat_cmp set n ≡ true

-- The number is marked, and it isn't.
abbrev pub IsMarked : List Bool → ℕ → Type 0
IsMarked marks n = get_or marks n false ≡ true

abbrev pub IsUnmarked : List Bool → ℕ → Type 0
IsUnmarked marks n = get_or marks n false ≡ false

-- The step isn't marked, and its parents are.
pub record IsOpen (rows : List (List ℕ)) (marks : List Bool) (step : ℕ) : Type 0 where
  pub stands : IsStep rows step
  pub fresh : IsUnmarked marks step
  pub after : (parent : ℕ) → HasParent rows step parent → IsMarked marks parent

-- The step waits for a parent that isn't marked.
abbrev pub Waits : List (List ℕ) → List Bool → List (List ℕ) → ℕ → Type 0
Waits rows marks waiting step =
    (parent : ℕ) × HasParent rows step parent × IsUnmarked marks parent × Contains (get_or waiting parent []) step

-- The step is ready or waits.
abbrev pub IsPlaced : List (List ℕ) → List Bool → BTreeSet ℕ → List (List ℕ) → ℕ → Type 0
IsPlaced rows marks ready waiting step = IsIn ready step ⊎ Waits rows marks waiting step

-- After some turns: each step that isn't marked is ready, or waits, or is one of the others, and the ready ones are open.
pub record Fits (rows : List (List ℕ)) (marks : List Bool) (ready : BTreeSet ℕ) (waiting : List (List ℕ)) (others : List ℕ) : Type 0 where
  pub long : length waiting ≡ length rows + 1
  pub placed : (step : ℕ) → IsStep rows step → IsUnmarked marks step → IsPlaced rows marks ready waiting step ⊎ Contains others step
  pub opened : (step : ℕ) → IsIn ready step → IsOpen rows marks step

-- The marks are those of the listed steps, each of which was the least that was ready.
pub record AreTurns (rows : List (List ℕ)) (marks : List Bool) (list : List ℕ) : Type 0 where
  pub long : length marks ≡ length rows + 1
  pub turns : ComeAfter rows [] list
  pub listed : (step : ℕ) → IsMarked marks step → Contains list step
  pub marked : (step : ℕ) → Contains list step → IsMarked marks step

-- Each step that isn't listed has a parent that isn't.
abbrev pub AreStuck : List (List ℕ) → List ℕ → Type 0
AreStuck rows list =
    (step : ℕ) → IsStep rows step → (Contains list step → ⊥) → (parent : ℕ) × HasParent rows step parent × (Contains list parent → ⊥)
