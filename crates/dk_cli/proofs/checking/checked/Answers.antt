use Rattle.std.proofs.Common.{◌≡◌, Err, Ok, ap, sym, ◌∙◌}
use Rattle.std.proofs.lemmas.Result.{err_from_is_err_and}
use Rattle.dk_cli.specs.Checking.{IsTyping, typed_text}
use Rattle.dk_cli.specs.Steps.{answer_view}
use Rattle.dk_cli.proofs.StageLaws.{goes_on, stops}
use Rattle.dk_cli.proofs.checking.checked.Goals as goal

pub returns-in_err-typing : goal.returns-in_err-typing
returns-in_err-typing c =
    let end = err_from_is_err_and c.from_residual.result c.from_residual.ensures.1 in
    stops (IsTyping c.args.development.now) (λ typed end. end ≡ Ok typed_text) c.typing.result end.0 (answer_view c.from_residual.result)
    (c.in_err-typing.was ∙ ap Err (sym end.2)) (ap answer_view end.1) c.typing.ensures

pub returns : goal.returns
returns c =
    goes_on (IsTyping c.args.development.now) (λ typed end. end ≡ Ok typed_text) c.typing.result _ (Ok c.in_ok-text.text.items)
    c.in_ok-typing.was c.typing.ensures (ap Ok c.in_ok-text.ensures)
