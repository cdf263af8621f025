-- The graph of a derivation: the numbers of each step's parents, and walks along them.
use Rattle.std.specs.Prelude.{◌≡◌, ℕ, zero, suc, ◌+◌, ◌<◌, ◌≤◌, nat_eq, Bool, List, [], Option, Some, None, Result, Ok, Err, map, find, position, length, slice_get, get_or, Contains}
use Rattle.std.specs.Cmp.Lexicographic.{pointwise}
use Rattle.std.specs.Option.{option_map_or}
use Rattle.derivation_graph.specs.declared.graph.Node.{Node}
use Rattle.derivation_graph.specs.declared.graph.Graph.{Graph}
use Rattle.derivation_graph.specs.declared.graph.GraphFault.{GraphFault}
use Rattle.derivation_graph.specs.declared.graph.GraphFault.TheVariants.{MissingParent, Cycle, Memory}

-- ---- names

-- No two places of the list have one name.
abbrev pub AreDistinct : List (List ℕ) → Type 0
AreDistinct names = (j k : ℕ) (name : List ℕ) → slice_get names j ≡ Some name → slice_get names k ≡ Some name → j ≡ k

-- the names of the steps, in the order of the file
abbrev pub names_of : List Node → List (List ℕ)
names_of nodes = map (λ node. node.name) nodes

-- the number of the first of the steps with these names that has the name, counted from 1, and 0 where none has it
abbrev pub number_of : List (List ℕ) → List ℕ → ℕ
number_of names name = option_map_or (λ place. place + 1) (position (pointwise nat_eq name) names) 0

-- no step has the name
abbrev pub is_missing : List (List ℕ) → List ℕ → Bool
is_missing names name = nat_eq (number_of names name) 0

-- the first parent of a step that no step has for a name
abbrev pub missing_parent : List (List ℕ) → Node → Option (List ℕ)
missing_parent names node = find (is_missing names) node.parents

-- Each step at a place before this one has its parents.
abbrev pub HasParentsBefore : List Node → ℕ → Type 0
HasParentsBefore nodes place =
    (earlier : ℕ) (node : Node) → earlier < place → slice_get nodes earlier ≡ Some node → missing_parent (names_of nodes) node ≡ None

-- Each step has its parents.
abbrev pub HasParents : List Node → Type 0
HasParents nodes = HasParentsBefore nodes (length nodes)

-- The step is the first that lacks a parent, and the name is that of the first parent that it lacks.
abbrev pub IsFirstMissing : List Node → ℕ → List ℕ → Type 0
IsFirstMissing nodes step name =
    (place : ℕ) × (step ≡ place + 1) × HasParentsBefore nodes place
    × ((node : Node) × (slice_get nodes place ≡ Some node) × (missing_parent (names_of nodes) node ≡ Some name))

-- ---- numbers

-- the numbers of a step's parents, in their order
abbrev pub numbers_of : List (List ℕ) → Node → List ℕ
numbers_of names node = map (number_of names) node.parents

-- the numbers of the parents of each step
abbrev pub rows_of : List Node → List (List ℕ)
rows_of nodes = map (numbers_of (names_of nodes)) nodes

-- the parents of the step of that number, none where there is no such step
abbrev pub parents_in : List (List ℕ) → ℕ → List ℕ
parents_in rows zero = []
parents_in rows (suc place) = get_or rows place []

-- The number is that of a step.
abbrev pub IsStep : List (List ℕ) → ℕ → Type 0
IsStep rows step = (0 < step) × (step ≤ length rows)

-- The second step is a parent of the first.
abbrev pub HasParent : List (List ℕ) → ℕ → ℕ → Type 0
HasParent rows step parent = Contains (parents_in rows step) parent

-- Every parent of a step is a step.
abbrev pub HasStepsForParents : List (List ℕ) → Type 0
HasStepsForParents rows = (step parent : ℕ) → HasParent rows step parent → IsStep rows parent

-- ---- walks and cycles

-- A walk of one or more turns, each from a step to one of its parents.
pub data Walks (rows : List (List ℕ)) : ℕ → ℕ → Type 0 where
  turn : (from to : ℕ) → HasParent rows from to → Walks rows from to
  onward : (from through to : ℕ) → HasParent rows from through → Walks rows through to → Walks rows from to

-- A walk leads from the step to itself.
abbrev pub IsOnCycle : List (List ℕ) → ℕ → Type 0
IsOnCycle rows step = Walks rows step step

-- No step lies on a cycle.
abbrev pub HasNoCycle : List (List ℕ) → Type 0
HasNoCycle rows = (step : ℕ) → IsOnCycle rows step → ⊥

-- The step is the least that lies on a cycle.
abbrev pub IsLeastOnCycle : List (List ℕ) → ℕ → Type 0
IsLeastOnCycle rows step = IsOnCycle rows step × ((other : ℕ) → other < step → IsOnCycle rows other → ⊥)

-- ---- the graph

-- The graph of the nodes: each step has its parents, and their numbers.
abbrev pub IsGraphOf : List Node → Graph → Type 0
IsGraphOf nodes graph = HasParents nodes × (graph.parents ≡ rows_of nodes)

-- The answer on nodes: their graph, which has no cycle, or the first parent that is missing, or the least step
-- on a cycle where none is missing. Want of memory may come at any time.
abbrev pub IsGraphAnswer : List Node → Result Graph GraphFault → Type 0
IsGraphAnswer nodes (Ok graph) = IsGraphOf nodes graph × HasNoCycle graph.parents
IsGraphAnswer nodes (Err (MissingParent step name)) = IsFirstMissing nodes step name
IsGraphAnswer nodes (Err (Cycle step)) = HasParents nodes × IsLeastOnCycle (rows_of nodes) step
IsGraphAnswer nodes (Err Memory) = Unit {0}
