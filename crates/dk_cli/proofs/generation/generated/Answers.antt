use Rattle.std.proofs.Common.{Err, ap, sym, ◌∙◌}
use Rattle.std.proofs.lemmas.Result.{err_from_is_err_and}
use Rattle.generator.specs.Files.{problem_text, trace_text}
use Rattle.dk_cli.specs.Derivations.{IsDerivationIn}
use Rattle.dk_cli.specs.Generation.{IsSummed}
use Rattle.dk_cli.specs.Steps.{answer_view}
use Rattle.dk_cli.proofs.StageLaws.{goes_on, stops}
use Rattle.dk_cli.proofs.generation.generated.Goals as goal

pub returns-in_err-derivation : goal.returns-in_err-derivation
returns-in_err-derivation g c =
    let n = c.args.number in
    let end = err_from_is_err_and c.from_residual.result c.from_residual.ensures.1 in
    stops (IsDerivationIn (problem_text n) (trace_text n)) (IsSummed n) c.made_derivation.result end.0 (answer_view c.from_residual.result)
    (c.in_err-derivation.was ∙ ap Err (sym end.2)) (ap answer_view end.1) c.made_derivation.ensures.answer

pub returns : goal.returns
returns g c =
    let n = c.args.number in
    goes_on (IsDerivationIn (problem_text n) (trace_text n)) (IsSummed n) c.made_derivation.result c.in_ok-derivation.derivation (answer_view c.summed.result)
    c.in_ok-derivation.was c.made_derivation.ensures.answer c.summed.ensures
