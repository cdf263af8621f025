use Rattle.std.proofs.Common.{subst}
use Rattle.step_check.specs.Freshness.{IsFirstBad}
use Rattle.step_check.proofs.bad_steps.first_bad.Goals as goal

pub returns : goal.returns
returns c = subst (λ list. IsFirstBad list c.first_bad_of.result) c.as_slice.ensures c.first_bad_of.ensures
