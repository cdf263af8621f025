use Rattle.std.proofs.Common.{◌≡◌, Err, Ok, ap, sym, ◌∙◌}
use Rattle.std.proofs.lemmas.Result.{err_from_is_err_and}
use Rattle.dk_cli.specs.Checking.{IsCheckedIn}
use Rattle.dk_cli.specs.Generation.{summary_text}
use Rattle.dk_cli.specs.Steps.{answer_view}
use Rattle.dk_cli.specs.declared.syntax.Syntax.TheVariants.{Lambdapi}
use Rattle.dk_cli.proofs.StageLaws.{goes_on, stops}
use Rattle.dk_cli.proofs.generation.typed_summary.Goals as goal

pub returns-in_err-_typed : goal.returns-in_err-_typed
returns-in_err-_typed c =
    let sum = summary_text c.args.number c.args.derivation.now c.args.plan.now in
    let end = err_from_is_err_and c.from_residual.result c.from_residual.ensures.1 in
    stops (IsCheckedIn Lambdapi c.args.text.items) (λ said end. end ≡ Ok sum) (answer_view c.checked_in.result) end.0 (answer_view c.from_residual.result)
    (ap answer_view (c.in_err-_typed.was ∙ ap Err (sym end.2))) (ap answer_view end.1) c.checked_in.ensures

pub returns : goal.returns
returns c =
    let sum = summary_text c.args.number c.args.derivation.now c.args.plan.now in
    goes_on (IsCheckedIn Lambdapi c.args.text.items) (λ said end. end ≡ Ok sum) (answer_view c.checked_in.result) c.in_ok-_typed._typed.items (Ok c.in_ok-line.line.items)
    (ap answer_view c.in_ok-_typed.was) c.checked_in.ensures (ap Ok c.in_ok-line.ensures)
