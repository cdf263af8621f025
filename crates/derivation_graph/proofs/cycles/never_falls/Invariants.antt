-- From no step up to the place a rank falls.
use Rattle.std.specs.Prelude.{ℕ, ◌≤◌}
use Rattle.derivation_graph.specs.Ranks.{NeverFallsFrom}
use Rattle.derivation_graph.proofs.cycles.never_falls.Given as goal

abbrev pub invariant-loop-place : goal.invariant-loop-place
invariant-loop-place l = (q : ℕ) → q ≤ l.place → NeverFallsFrom l.rows l.ranks q
