use Rattle.std.proofs.Common.{◌+◌, ◌*◌}
use Rattle.dk_syntax.proofs.SubstitutionLaws.{SameTo}
use Rattle.unifier.specs.Comparing.{Follows}
use Rattle.unifier.proofs.comparison.+next_step.Given as goal

abbrev pub decreases-next_step : goal.decreases-next_step
decreases-next_step l = 3 * l.fuel

abbrev pub decreases-terms_step : goal.decreases-terms_step
decreases-terms_step l = 3 * l.fuel + 1

abbrev pub decreases-ends_step : goal.decreases-ends_step
decreases-ends_step l = 3 * l.fuel + 2

abbrev pub invariant-terms_step-loop-i : goal.invariant-terms_step-loop-i
invariant-terms_step-loop-i l = Follows l.frozen (λ r. SameTo r l.xs l.ys l.i) l.s
