use Rattle.development.proofs.PlanLaws.{plans_are_buildable}
use Rattle.development.proofs.laws.plans_are_buildable.Goals as goal

pub returns : goal.returns
returns c = plans_are_buildable
