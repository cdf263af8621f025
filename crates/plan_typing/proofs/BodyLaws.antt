-- The instances of a plan and the body of goal, as the crates above cite their laws.
use Rattle.plan_symbols.proofs.KnownLaws.{instances_are_over, thins_are_over}
use Rattle.plan_typing.proofs.PlanLaws.{body_of_plan_closed, body_of_plan_typed, instances_right}
use Rattle.plan_typing.specs.Laws.{InstancesAreRight, PlanBodyIsClosed, PlanBodyIsTyped}

pub plan_instances_right : InstancesAreRight
plan_instances_right = instances_right instances_are_over thins_are_over

pub plan_body_typed : PlanBodyIsTyped
plan_body_typed = body_of_plan_typed instances_are_over thins_are_over

pub plan_body_closed : PlanBodyIsClosed
plan_body_closed = body_of_plan_closed instances_are_over thins_are_over
