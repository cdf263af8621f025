use Rattle.std.proofs.Common.{Err, ap, sym, ◌∙◌}
use Rattle.std.proofs.lemmas.Result.{err_from_is_err_and}
use Rattle.tstp_trace.specs.Problems.{IsProblemAnswer}
use Rattle.dk_cli.specs.Derivations.{IsText, problem_refusal}
use Rattle.dk_cli.specs.Stages.{IsToldBy}
use Rattle.dk_cli.specs.declared.refusal.File.TheVariants as file
use Rattle.dk_cli.proofs.StageLaws.{answered, goes_on, stops}
use Rattle.dk_cli.proofs.reading.problem_in.Goals as goal

pub returns-in_err-items : goal.returns-in_err-items
returns-in_err-items c =
    let end = err_from_is_err_and c.from_residual.result c.from_residual.ensures.1 in
    stops (IsText file.Problem c.args.bytes.items) (λ items. IsToldBy problem_refusal (IsProblemAnswer items)) c.items_in.result end.0 c.from_residual.result
    (c.in_err-items.was ∙ ap Err (sym end.2)) end.1 c.items_in.ensures

pub returns : goal.returns
returns c =
    goes_on (IsText file.Problem c.args.bytes.items) (λ items. IsToldBy problem_refusal (IsProblemAnswer items)) c.items_in.result c.in_ok-items.items c.told_problem.result
    c.in_ok-items.was c.items_in.ensures
    (answered (IsToldBy problem_refusal (IsProblemAnswer c.in_ok-items.items)) c.told_problem.result (c.problem_from.result, c.problem_from.ensures.answer, c.told_problem.ensures))
