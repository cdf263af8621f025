use Rattle.std.proofs.Common.{Err, ap, subst, sym, ◌∙◌}
use Rattle.std.proofs.lemmas.Result.{err_from_is_err_and}
use Rattle.dk_cli.specs.Derivations.{IsDerivedBy, IsProblemIn, IsTraceIn}
use Rattle.dk_cli.specs.Stages.{Answered, Follows}
use Rattle.dk_cli.proofs.ReadDerivations.{are_read}
use Rattle.dk_cli.proofs.StageLaws.{goes_on, stops}
use Rattle.dk_cli.proofs.derivation.derivation_in.Goals as goal

pub returns-in_err-problem-clause-answer : goal.returns-in_err-problem-clause-answer
returns-in_err-problem-clause-answer c =
    let end = err_from_is_err_and c.from_residual.result c.from_residual.ensures.1 in
    stops (IsProblemIn c.args.problem.items) (λ problem. Follows (IsTraceIn c.args.trace.items) (IsDerivedBy problem)) c.problem_in.result end.0 c.from_residual.result
    (c.in_err-problem.was ∙ ap Err (sym end.2)) end.1 c.problem_in.ensures

pub returns-in_err-trace-clause-answer : goal.returns-in_err-trace-clause-answer
returns-in_err-trace-clause-answer c =
    let end = err_from_is_err_and c.from_residual-in_err-trace.result c.from_residual-in_err-trace.ensures.1 in
    goes_on (IsProblemIn c.args.problem.items) (λ problem. Follows (IsTraceIn c.args.trace.items) (IsDerivedBy problem)) c.problem_in.result c.in_ok-problem.problem c.from_residual-in_err-trace.result
    c.in_ok-problem.was c.problem_in.ensures
    (stops (IsTraceIn c.args.trace.items) (IsDerivedBy c.in_ok-problem.problem) c.trace_in.result end.0 c.from_residual-in_err-trace.result
    (c.in_err-trace.was ∙ ap Err (sym end.2)) end.1 c.trace_in.ensures.answer)

pub returns-clause-answer : goal.returns-clause-answer
returns-clause-answer c =
    goes_on (IsProblemIn c.args.problem.items) (λ problem. Follows (IsTraceIn c.args.trace.items) (IsDerivedBy problem)) c.problem_in.result c.in_ok-problem.problem c.derived_by.result
    c.in_ok-problem.was c.problem_in.ensures
    (goes_on (IsTraceIn c.args.trace.items) (IsDerivedBy c.in_ok-problem.problem) c.trace_in.result c.in_ok-trace.trace c.derived_by.result
    c.in_ok-trace.was c.trace_in.ensures.answer c.derived_by.ensures.answer)

pub derived_by-requires-clause-read : goal.derived_by-requires-clause-read
derived_by-requires-clause-read c =
    let bytes = c.args.problem.items in
    let others = c.args.trace.items in
    are_read bytes others c.in_ok-problem.problem c.in_ok-trace.trace
    (subst (Answered (IsProblemIn bytes)) c.in_ok-problem.was c.problem_in.ensures) (subst (Answered (IsTraceIn others)) c.in_ok-trace.was c.trace_in.ensures.answer)
