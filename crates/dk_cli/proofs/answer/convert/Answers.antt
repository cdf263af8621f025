use Rattle.std.proofs.Common.{Err, ap, sym, ◌∙◌}
use Rattle.std.proofs.lemmas.Result.{err_from_is_err_and}
use Rattle.dk_cli.specs.Answer.{IsOfTrace, LacksOneOf}
use Rattle.dk_cli.specs.Commands.{convert, files_of_names}
use Rattle.dk_cli.specs.Conversion.{IsDeveloped}
use Rattle.dk_cli.specs.Derivations.{IsDerivationAt}
use Rattle.dk_cli.specs.Steps.{answer_view}
use Rattle.dk_cli.specs.Views.{names_view}
use Rattle.dk_cli.proofs.Continued.{after_derivation, answers_command, goes_on_told, stops_told}
use Rattle.dk_cli.proofs.DerivationLaws.{IsLater}
use Rattle.dk_cli.proofs.ConversionLaws.{developed_later}
use Rattle.dk_cli.proofs.answer.convert.Goals as goal

pub returns-in_err-derivation-clause-answers : goal.returns-in_err-derivation-clause-answers
returns-in_err-derivation-clause-answers g c =
    let names = names_view c.args.names in
    let told = g.I.Inputs.told c.args.inputs.now in
    let end = err_from_is_err_and c.from_residual.result c.from_residual.ensures.1 in
    let limit = c.args.limit in
    let syntax = c.args.syntax in
    answers_command told (convert syntax names limit) _ _ (answer_view c.from_residual.result)
    (stops_told told (LacksOneOf told (files_of_names names)) IsOfTrace (IsDerivationAt names) (IsDeveloped syntax limit) _ _ c.derivation_of.result end.0 (answer_view c.from_residual.result)
    (c.in_err-derivation.was ∙ ap Err (sym end.2)) (ap answer_view end.1) c.derivation_of.ensures.answers)

pub returns-clause-answers : goal.returns-clause-answers
returns-clause-answers g c =
    let names = names_view c.args.names in
    let told = g.I.Inputs.told c.args.inputs.now in
    let limit = c.args.limit in
    let syntax = c.args.syntax in
    answers_command told (convert syntax names limit) _ _ (answer_view c.developed.result)
    (goes_on_told told (LacksOneOf told (files_of_names names)) IsOfTrace (IsDerivationAt names) (IsDeveloped syntax limit) _ _ IsLater after_derivation c.derivation_of.result c.in_ok-derivation.derivation (answer_view c.developed.result)
    c.in_ok-derivation.was c.derivation_of.ensures.answers (developed_later syntax c.in_ok-derivation.derivation limit) c.developed.ensures)
