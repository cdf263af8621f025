use Rattle.plan_typing.proofs.BodyLaws.{plan_body_closed, plan_body_typed}
use Rattle.plan_typing.proofs.laws.plan_body_is_typed.Goals as goal

pub returns-clause-typed : goal.returns-clause-typed
returns-clause-typed c = plan_body_typed

pub returns-clause-closed : goal.returns-clause-closed
returns-clause-closed c = plan_body_closed
