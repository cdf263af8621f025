use Rattle.std.proofs.Common.{◌≡◌, ◌+◌, drop}
use Rattle.step_compose.specs.Relaxing.{kept_in}
use Rattle.step_compose.proofs.relaxed.count_kept.Given as goal

abbrev pub invariant-loop-bound : goal.invariant-loop-bound
invariant-loop-bound l = l.kept + kept_in (drop l.bound-index l.around) ≡ kept_in l.around
