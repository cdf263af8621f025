-- No step before the place is marked and free.
use Rattle.std.specs.Prelude.{ℕ, ◌<◌}
use Rattle.derivation_graph.specs.Roots.{IsFreeMark}
use Rattle.derivation_graph.proofs.roots.first_free_mark.Given as goal

abbrev pub invariant-loop-place : goal.invariant-loop-place
invariant-loop-place l = (k : ℕ) → k < l.place → IsFreeMark l.marks l.barred k → ⊥
