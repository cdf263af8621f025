use Rattle.std.proofs.Common.{Err, ap, sym, ◌∙◌}
use Rattle.std.proofs.lemmas.Result.{err_from_is_err_and}
use Rattle.dk_cli.specs.Conversion.{IsWritten}
use Rattle.dk_cli.specs.Generation.{IsSummaryOf}
use Rattle.dk_cli.specs.Steps.{answer_view}
use Rattle.dk_cli.specs.declared.syntax.Syntax.TheVariants.{Lambdapi}
use Rattle.dk_cli.proofs.StageLaws.{goes_on, stops}
use Rattle.dk_cli.proofs.generation.summarized.Goals as goal

pub returns-in_err-text : goal.returns-in_err-text
returns-in_err-text c =
    let d = c.args.derivation.now in
    let plan = c.args.plan.now in
    let end = err_from_is_err_and c.from_residual.result c.from_residual.ensures.1 in
    stops (IsWritten Lambdapi d plan) (IsSummaryOf c.args.number d plan) (answer_view c.written.result) end.0 (answer_view c.from_residual.result)
    (ap answer_view (c.in_err-text.was ∙ ap Err (sym end.2))) (ap answer_view end.1) c.written.ensures

pub returns : goal.returns
returns c =
    let d = c.args.derivation.now in
    let plan = c.args.plan.now in
    goes_on (IsWritten Lambdapi d plan) (IsSummaryOf c.args.number d plan) (answer_view c.written.result) c.in_ok-text.text.items (answer_view c.typed_summary.result)
    (ap answer_view c.in_ok-text.was) c.written.ensures c.typed_summary.ensures
