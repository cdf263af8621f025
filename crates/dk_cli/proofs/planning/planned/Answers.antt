use Rattle.std.proofs.Common.{subst, sym}
use Rattle.dk_cli.specs.Planning.{IsPlanOf}
use Rattle.dk_cli.specs.Stages.{Answered}
use Rattle.dk_cli.proofs.PlanningLaws.{plan_told}
use Rattle.dk_cli.proofs.planning.planned.Goals as goal

pub returns : goal.returns
returns g c =
    let d = c.args.derivation.now in
    subst (Answered (IsPlanOf c.args.limit d)) (sym c.told_plan.ensures) (plan_told d c.requires.derived.graph c.args.limit c.make_plan.result c.make_plan.ensures)
