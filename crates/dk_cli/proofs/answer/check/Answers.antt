use Rattle.std.proofs.Common.{[], ◌∷◌, Err, ap, sym, ◌∙◌}
use Rattle.std.proofs.lemmas.Result.{err_from_is_err_and}
use Rattle.dk_cli.specs.Answer.{IsOfDevelopment, LacksOneOf}
use Rattle.dk_cli.specs.Checking.{IsCheckedIn}
use Rattle.dk_cli.specs.Commands.{check}
use Rattle.dk_cli.specs.Derivations.{IsFile}
use Rattle.dk_cli.specs.Steps.{answer_view}
use Rattle.dk_cli.specs.declared.refusal.File.TheVariants.{Development}
use Rattle.dk_cli.proofs.CheckLaws.{IsOfCheck, after_file, checked_in_later}
use Rattle.dk_cli.proofs.Continued.{answers_command, goes_on_told, stops_told}
use Rattle.dk_cli.proofs.OneFile.{file_answers}
use Rattle.dk_cli.proofs.answer.check.Goals as goal

pub returns-in_err-bytes-clause-answers : goal.returns-in_err-bytes-clause-answers
returns-in_err-bytes-clause-answers g c =
    let name = c.args.name.now in
    let syntax = c.args.syntax in
    let told = g.I.Inputs.told c.args.inputs.now in
    let end = err_from_is_err_and c.from_residual.result c.from_residual.ensures.1 in
    answers_command told (check syntax name) _ _ (answer_view c.from_residual.result)
    (stops_told told (LacksOneOf told (name ∷ [])) IsOfDevelopment (λ files. IsFile Development (files name)) (IsCheckedIn syntax) _ _ (answer_view c.read_file.result) end.0 (answer_view c.from_residual.result)
    (ap answer_view (c.in_err-bytes.was ∙ ap Err (sym end.2))) (ap answer_view end.1) (file_answers told name Development _ _ c.read_file.result c.read_file.ensures.reads))

pub returns-clause-answers : goal.returns-clause-answers
returns-clause-answers g c =
    let name = c.args.name.now in
    let syntax = c.args.syntax in
    let told = g.I.Inputs.told c.args.inputs.now in
    answers_command told (check syntax name) _ _ (answer_view c.checked_in.result)
    (goes_on_told told (LacksOneOf told (name ∷ [])) IsOfDevelopment (λ files. IsFile Development (files name)) (IsCheckedIn syntax) _ _ IsOfCheck after_file (answer_view c.read_file.result) c.in_ok-bytes.bytes.items (answer_view c.checked_in.result)
    (ap answer_view c.in_ok-bytes.was) (file_answers told name Development _ _ c.read_file.result c.read_file.ensures.reads) (checked_in_later syntax c.in_ok-bytes.bytes.items)
    c.checked_in.ensures)
