use Rattle.std.proofs.Common.{Err, ap, sym, ◌∙◌}
use Rattle.std.proofs.lemmas.Result.{err_from_is_err_and}
use Rattle.dk_cli.specs.Views.{names_view}
use Rattle.dk_cli.proofs.Unread.{derivation_ends, problem_ends, trace_ends}
use Rattle.dk_cli.proofs.answer.derivation_of.Goals as goal

pub returns-in_err-problem-clause-answers : goal.returns-in_err-problem-clause-answers
returns-in_err-problem-clause-answers g c =
    let end = err_from_is_err_and c.from_residual.result c.from_residual.ensures.1 in
    problem_ends (g.I.Inputs.told c.args.inputs.now) (names_view c.args.names) _ _ c.read_file.result c.from_residual.result end.0
    (c.in_err-problem.was ∙ ap Err (sym end.2)) end.1 c.read_file.ensures.reads

pub returns-in_err-trace-clause-answers : goal.returns-in_err-trace-clause-answers
returns-in_err-trace-clause-answers g c =
    let end = err_from_is_err_and c.from_residual-in_err-trace.result c.from_residual-in_err-trace.ensures.1 in
    trace_ends (g.I.Inputs.told c.args.inputs.now) (g.I.Inputs.told c.read_file.new.inputs) (names_view c.args.names) _ _ _
    c.read_file.result c.read_file-2.result c.from_residual-in_err-trace.result c.in_ok-problem.problem end.0
    c.in_ok-problem.was c.read_file.ensures.reads c.read_file.ensures.same
    (c.in_err-trace.was ∙ ap Err (sym end.2)) end.1 c.read_file-2.ensures.reads

pub returns-clause-answers : goal.returns-clause-answers
returns-clause-answers g c =
    derivation_ends (g.I.Inputs.told c.args.inputs.now) (g.I.Inputs.told c.read_file.new.inputs) (names_view c.args.names) _ _ _
    c.read_file.result c.read_file-2.result c.in_ok-problem.problem c.in_ok-trace.trace c.derivation_in.result
    c.in_ok-problem.was c.read_file.ensures.reads c.read_file.ensures.same
    c.in_ok-trace.was c.read_file-2.ensures.reads
    c.derivation_in.ensures.answer
