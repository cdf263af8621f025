-- No step before the place may be the root.
use Rattle.std.specs.Prelude.{ℕ, ◌<◌}
use Rattle.derivation_graph.specs.Roots.{MayBeRoot}
use Rattle.derivation_graph.proofs.roots.root.Given as goal

abbrev pub invariant-loop-place : goal.invariant-loop-place
invariant-loop-place l = (k : ℕ) → k < l.place → MayBeRoot l.formulas l.fn.barred k → ⊥
