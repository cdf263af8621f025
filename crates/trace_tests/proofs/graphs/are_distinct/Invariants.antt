-- The nodes so far have different names.
use Rattle.std.proofs.Common.{◌≡◌, ℕ, ◌<◌, List, Some, slice_get}
use Rattle.derivation_graph.specs.Graphs.{names_of}
use Rattle.trace_tests.proofs.graphs.are_distinct.Given as goal

abbrev pub invariant-loop-k : goal.invariant-loop-k
invariant-loop-k l =
    (a b : ℕ) (name : List ℕ) → a < b → b < l.k → slice_get (names_of l.nodes) a ≡ Some name → slice_get (names_of l.nodes) b ≡ Some name → ⊥

abbrev pub invariant-loop-j : goal.invariant-loop-j
invariant-loop-j l =
    (a : ℕ) (name : List ℕ) → a < l.j → slice_get (names_of l.nodes) a ≡ Some name → slice_get (names_of l.nodes) l.k ≡ Some name → ⊥
