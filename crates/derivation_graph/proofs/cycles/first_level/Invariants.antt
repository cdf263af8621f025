-- From each step up to the place ranks rise.
use Rattle.std.specs.Prelude.{ℕ, ◌≤◌}
use Rattle.derivation_graph.specs.Ranks.{RisesFrom}
use Rattle.derivation_graph.proofs.cycles.first_level.Given as goal

abbrev pub invariant-loop-place : goal.invariant-loop-place
invariant-loop-place l = (q : ℕ) → q ≤ l.place → RisesFrom l.rows l.ranks q
