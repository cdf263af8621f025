-- What the crates above rely on beside the contracts: one answer each.
use Rattle.std.specs.Prelude.{◌≡◌, ◌≢◌, List, Err}
use Rattle.std.specs.declared.result.Result.{Result}
use Rattle.dk_syntax.specs.declared.Problem.{Problem}
use Rattle.tptp_text.specs.declared.Item.{Item}
use Rattle.tstp_trace.specs.Problems.{IsProblemAnswer}
use Rattle.tstp_trace.specs.Traces.{IsTraceAnswer}
use Rattle.tstp_trace.specs.declared.fault.ProblemFault.{ProblemFault}
use Rattle.tstp_trace.specs.declared.fault.ProblemFault.TheVariants as problem_fault
use Rattle.tstp_trace.specs.declared.fault.TraceFault.{TraceFault}
use Rattle.tstp_trace.specs.declared.fault.TraceFault.TheVariants as trace_fault
use Rattle.tstp_trace.specs.declared.step.Trace.{Trace}

-- Where memory doesn't lack, the items have one problem or one fault.
abbrev pub HasOneProblem : List Item → Type 0
HasOneProblem items =
    (one other : Result Problem ProblemFault) → IsProblemAnswer items one → IsProblemAnswer items other → one ≢ Err problem_fault.Memory → other ≢ Err problem_fault.Memory → one ≡ other

-- The same of a trace.
abbrev pub HasOneTrace : List Item → Type 0
HasOneTrace items =
    (one other : Result Trace TraceFault) → IsTraceAnswer items one → IsTraceAnswer items other → one ≢ Err trace_fault.Memory → other ≢ Err trace_fault.Memory → one ≡ other
