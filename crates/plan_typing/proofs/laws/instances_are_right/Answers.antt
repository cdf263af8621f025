use Rattle.plan_typing.proofs.BodyLaws.{plan_instances_right}
use Rattle.plan_typing.proofs.laws.instances_are_right.Goals as goal

pub returns : goal.returns
returns c = plan_instances_right
