use Rattle.std.proofs.Common.{Err, ap, sym, ◌∙◌}
use Rattle.std.proofs.lemmas.Result.{err_from_is_err_and}
use Rattle.tstp_trace.specs.Names.{AreDistinct}
use Rattle.tstp_trace.specs.Traces.{HaveFitParents, IsTraceAnswer, names_of}
use Rattle.tstp_trace.specs.declared.Trace.{Trace}
use Rattle.dk_cli.specs.Derivations.{IsText, trace_refusal}
use Rattle.dk_cli.specs.Stages.{IsToldBy}
use Rattle.dk_cli.specs.declared.refusal.File.TheVariants as file
use Rattle.dk_cli.proofs.Derived.{told_keeps}
use Rattle.dk_cli.proofs.StageLaws.{answered, goes_on, stops}
use Rattle.dk_cli.proofs.reading.trace_in.Goals as goal

pub returns-in_err-items-clause-answer : goal.returns-in_err-items-clause-answer
returns-in_err-items-clause-answer c =
    let end = err_from_is_err_and c.from_residual.result c.from_residual.ensures.1 in
    stops (IsText file.Trace c.args.bytes.items) (λ items. IsToldBy trace_refusal (IsTraceAnswer items)) c.items_in.result end.0 c.from_residual.result
    (c.in_err-items.was ∙ ap Err (sym end.2)) end.1 c.items_in.ensures

pub returns-clause-answer : goal.returns-clause-answer
returns-clause-answer c =
    goes_on (IsText file.Trace c.args.bytes.items) (λ items. IsToldBy trace_refusal (IsTraceAnswer items)) c.items_in.result c.in_ok-items.items c.told_trace.result
    c.in_ok-items.was c.items_in.ensures
    (answered (IsToldBy trace_refusal (IsTraceAnswer c.in_ok-items.items)) c.told_trace.result (c.trace_from.result, c.trace_from.ensures.answer, c.told_trace.ensures))

pub returns-clause-names : goal.returns-clause-names
returns-clause-names c = told_keeps (λ (trace : Trace). AreDistinct (names_of trace)) trace_refusal c.trace_from.result c.told_trace.result c.told_trace.ensures c.trace_from.ensures.names

pub returns-clause-parents : goal.returns-clause-parents
returns-clause-parents c = told_keeps (λ (trace : Trace). HaveFitParents trace.steps) trace_refusal c.trace_from.result c.told_trace.result c.told_trace.ensures c.trace_from.ensures.parents
