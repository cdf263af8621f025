-- No step up to the place lies on a cycle.
use Rattle.std.proofs.Common.{ℕ, ◌≤◌}
use Rattle.derivation_graph.specs.Graphs.{IsOnCycle}
use Rattle.derivation_graph.proofs.cycles.walked_cycle.Given as goal

abbrev pub invariant-loop-place : goal.invariant-loop-place
invariant-loop-place l = (q : ℕ) → q ≤ l.place → IsOnCycle l.rows q → ⊥
