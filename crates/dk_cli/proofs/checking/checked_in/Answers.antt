use Rattle.std.proofs.Common.{Err, ap, sym, ◌∙◌}
use Rattle.std.proofs.lemmas.Result.{err_from_is_err_and}
use Rattle.dk_cli.specs.Checking.{IsChecked, IsDevelopmentIn}
use Rattle.dk_cli.specs.Steps.{answer_view}
use Rattle.dk_cli.proofs.StageLaws.{goes_on, stops}
use Rattle.dk_cli.proofs.checking.checked_in.Goals as goal

pub returns-in_err-development : goal.returns-in_err-development
returns-in_err-development c =
    let end = err_from_is_err_and c.from_residual.result c.from_residual.ensures.1 in
    stops (IsDevelopmentIn c.args.syntax c.args.bytes.items) IsChecked c.development_in.result end.0 (answer_view c.from_residual.result)
    (c.in_err-development.was ∙ ap Err (sym end.2)) (ap answer_view end.1) c.development_in.ensures

pub returns : goal.returns
returns c =
    goes_on (IsDevelopmentIn c.args.syntax c.args.bytes.items) IsChecked c.development_in.result c.in_ok-development.development (answer_view c.checked.result)
    c.in_ok-development.was c.development_in.ensures c.checked.ensures
