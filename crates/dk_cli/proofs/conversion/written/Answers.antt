use Rattle.std.proofs.Common.{Ok, ap, subst}
use Rattle.std.specs.Prelude.{All}
use Rattle.assemble.specs.Problem.{problem_signature}
use Rattle.development.proofs.PlanLaws.{plans_are_buildable}
use Rattle.plan_typing.proofs.BodyLaws.{plan_instances_right}
use Rattle.dk_cli.specs.Conversion.{HasName}
use Rattle.dk_cli.proofs.ProperPlans.{proper_plan}
use Rattle.dk_cli.proofs.conversion.written.Goals as goal

pub development-requires : goal.development-requires
development-requires c =
    let d = c.args.derivation.now in
    let limit = c.requires.plan.0 in
    let plan = c.args.plan.now in
    let proper = proper_plan d.problem d.trace c.requires.derived.read limit plan c.requires.plan.1 in
    plans_are_buildable (problem_signature d.problem.symbols) d.problem d.trace limit plan proper.proper.closed c.requires.plan.1
    (plan_instances_right d.problem d.trace limit plan proper)

pub returns : goal.returns
returns c = (
  c.in_ok-made.made,
  c.in_ok-made.ensures,
  record {
    places = c.in_ok-text.ensures.over;
    names = subst (λ symbols. All HasName symbols) c.as_slice.ensures c.in_ok-names.ensures;
  },
  ap Ok c.in_ok-text.ensures.text,
)
