-- What is said while names are looked up. Only private contracts cite these words.
use Rattle.std.specs.Prelude.{◌≡◌, ℕ, List, Some, None, Result, Ok, Err, Vec, map}
use Rattle.std.specs.declared.alloc.Global.{Global}
use Rattle.derivation_graph.specs.declared.graph.Node.{Node}
use Rattle.derivation_graph.specs.declared.graph.GraphFault.{GraphFault}
use Rattle.derivation_graph.specs.declared.graph.GraphFault.TheVariants.{MissingParent, Cycle, Memory}
use Rattle.derivation_graph.specs.Graphs.{HasParents, IsFirstMissing, missing_parent, numbers_of, rows_of}

-- the bytes of each vector
abbrev pub bytes_of : List (Vec ℕ Global) → List (List ℕ)
bytes_of keys = map (λ key. key.items) keys

-- The fault of a step: its first missing parent, or want of memory.
abbrev pub IsRowFault : List (List ℕ) → ℕ → Node → GraphFault → Type 0
IsRowFault names step node (MissingParent found name) = (found ≡ step) × (missing_parent names node ≡ Some name)
IsRowFault names step node (Cycle found) = ⊥
IsRowFault names step node Memory = Unit {0}

-- The answer on a step: the numbers of its parents, or its fault.
abbrev pub IsRowAnswer : List (List ℕ) → ℕ → Node → Result (List ℕ) GraphFault → Type 0
IsRowAnswer names step node (Ok row) = (row ≡ numbers_of names node) × (missing_parent names node ≡ None)
IsRowAnswer names step node (Err fault) = IsRowFault names step node fault

-- The answer on all steps: the numbers of the parents of each, or the first fault.
abbrev pub IsRowsAnswer : List Node → Result (List (List ℕ)) GraphFault → Type 0
IsRowsAnswer nodes (Ok rows) = HasParents nodes × (rows ≡ rows_of nodes)
IsRowsAnswer nodes (Err (MissingParent step name)) = IsFirstMissing nodes step name
IsRowsAnswer nodes (Err (Cycle step)) = ⊥
IsRowsAnswer nodes (Err Memory) = Unit {0}
