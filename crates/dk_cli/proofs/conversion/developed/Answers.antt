use Rattle.std.proofs.Common.{Err, ap, subst, sym, ◌∙◌}
use Rattle.std.proofs.lemmas.Result.{err_from_is_err_and}
use Rattle.dk_cli.specs.Conversion.{IsWritten}
use Rattle.dk_cli.specs.Planning.{IsPlanOf}
use Rattle.dk_cli.specs.Stages.{Answered}
use Rattle.dk_cli.specs.Steps.{answer_view}
use Rattle.dk_cli.proofs.PlanningLaws.{plan_found}
use Rattle.dk_cli.proofs.StageLaws.{goes_on, stops}
use Rattle.dk_cli.proofs.conversion.developed.Goals as goal

pub written-requires-clause-plan : goal.written-requires-clause-plan
written-requires-clause-plan g c =
    let d = c.args.derivation.now in
    (c.args.limit, plan_found c.args.limit d c.in_ok-plan.plan (subst (Answered (IsPlanOf c.args.limit d)) c.in_ok-plan.was c.planned.ensures))

pub returns-in_err-plan : goal.returns-in_err-plan
returns-in_err-plan g c =
    let d = c.args.derivation.now in
    let end = err_from_is_err_and c.from_residual.result c.from_residual.ensures.1 in
    stops (IsPlanOf c.args.limit d) (IsWritten c.args.syntax d) c.planned.result end.0 (answer_view c.from_residual.result)
    (c.in_err-plan.was ∙ ap Err (sym end.2)) (ap answer_view end.1) c.planned.ensures

pub returns : goal.returns
returns g c =
    let d = c.args.derivation.now in
    goes_on (IsPlanOf c.args.limit d) (IsWritten c.args.syntax d) c.planned.result c.in_ok-plan.plan (answer_view c.written.result) c.in_ok-plan.was c.planned.ensures c.written.ensures
