use Rattle.std.proofs.Common.{subst}
use Rattle.tptp_text.specs.declared.Item.{Item}
use Rattle.std.specs.Prelude.{List}
use Rattle.tstp_trace.specs.Traces.{IsTraceOf}
use Rattle.tstp_trace.proofs.ProperLaws.{proper_trace}
use Rattle.tstp_trace.proofs.TraceLaws.{distinct_trace, fit_trace}
use Rattle.tstp_trace.proofs.traces.trace_from.Goals as goal

pub returns-in-Ok-clause-names : goal.returns-in-Ok-clause-names
returns-in-Ok-clause-names c = distinct_trace c.into_vec.result.items c.in-Ok.trace c.in-Ok.ensures

pub returns-in-Ok-clause-parents : goal.returns-in-Ok-clause-parents
returns-in-Ok-clause-parents c = fit_trace c.into_vec.result.items c.in-Ok.trace c.in-Ok.ensures

pub returns-in-Ok-clause-proper : goal.returns-in-Ok-clause-proper
returns-in-Ok-clause-proper c proper =
    proper_trace c.args.items c.in-Ok.trace (subst (λ (l : List Item). IsTraceOf l c.in-Ok.trace) c.into_vec.ensures c.in-Ok.ensures) proper
