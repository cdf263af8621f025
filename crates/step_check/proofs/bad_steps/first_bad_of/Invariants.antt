-- No step before the place is bad.
use Rattle.std.specs.Prelude.{ℕ, ◌<◌}
use Rattle.step_check.specs.Freshness.{IsBadAt}
use Rattle.step_check.proofs.bad_steps.first_bad_of.Given as goal

abbrev pub invariant-loop-place : goal.invariant-loop-place
invariant-loop-place l = (k : ℕ) → k < l.place → IsBadAt l.fn.verdicts k → ⊥
