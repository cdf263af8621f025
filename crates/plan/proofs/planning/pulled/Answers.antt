use Rattle.std.proofs.Common.{sym, subst}
use Rattle.ground_instances.specs.Keys.{judged_by}
use Rattle.plan.proofs.Refusals.{pull_stage}
use Rattle.plan.proofs.planning.pulled.Goals as goal
use Rattle.plan.specs.Plans.{IsPullStage}

pub returns : goal.returns
returns c =
    let judged = judged_by c.args.trace.now c.args.start.now.graph c.args.verdicts.now in
    let root = c.args.start.now.root in
    subst (IsPullStage judged root c.args.limit) (sym c.told.ensures)
    (pull_stage judged root c.args.limit c.pull_back.result c.pull_back.ensures.answer c.pull_back.ensures.table)
