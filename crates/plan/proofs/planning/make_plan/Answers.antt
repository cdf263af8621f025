use Rattle.std.proofs.Common.{◌∙◌, Err, ap, sym, subst}
use Rattle.std.proofs.lemmas.Result.{err_from_is_err_and}
use Rattle.plan.proofs.planning.make_plan.Goals as goal
use Rattle.plan.specs.Plans.{IsPlanAnswer, IsStartStage, IsVerdictStage}

pub returns-in_err-start : goal.returns-in_err-start
returns-in_err-start g c =
    let problem = c.args.problem.now in
    let trace = c.args.trace.now in
    let end = err_from_is_err_and c.from_residual.result c.from_residual.ensures.1 in
    subst (IsPlanAnswer problem trace c.args.limit) (sym end.1)
    (subst (IsStartStage problem trace) (c.in_err-start.was ∙ ap Err (sym end.2)) c.start_of.ensures c.args.limit)

pub right_verdicts-requires-clause-start : goal.right_verdicts-requires-clause-start
right_verdicts-requires-clause-start g c κs lives = subst (IsStartStage c.args.problem.now c.args.trace.now) c.in_ok-start.was c.start_of.ensures

pub returns-in_err-verdicts : goal.returns-in_err-verdicts
returns-in_err-verdicts g c =
    let problem = c.args.problem.now in
    let trace = c.args.trace.now in
    let start = c.in_ok-start.start in
    let end = err_from_is_err_and c.from_residual-in_err-verdicts.result c.from_residual-in_err-verdicts.ensures.1 in
    subst (IsPlanAnswer problem trace c.args.limit) (sym end.1)
    (subst (IsVerdictStage problem trace start.graph start.root) (c.in_err-verdicts.was ∙ ap Err (sym end.2)) c.right_verdicts.ensures c.args.limit)

pub plan_from-requires-clause-judged : goal.plan_from-requires-clause-judged
plan_from-requires-clause-judged g c =
    let start = c.in_ok-start.start in
    let stage = subst (IsVerdictStage c.args.problem.now c.args.trace.now start.graph start.root) c.in_ok-verdicts.was c.right_verdicts.ensures in
    stage.0

pub plan_from-requires-clause-right : goal.plan_from-requires-clause-right
plan_from-requires-clause-right g c =
    let start = c.in_ok-start.start in
    let stage = subst (IsVerdictStage c.args.problem.now c.args.trace.now start.graph start.root) c.in_ok-verdicts.was c.right_verdicts.ensures in
    stage.1
