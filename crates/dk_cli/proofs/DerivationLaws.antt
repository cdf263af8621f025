-- What the derivation of two files is, stage by stage.
use Rattle.std.proofs.Common.{◌≡◌, ℕ, ◌<◌, ◌≤◌, List, length, Ok, Err, None, Some, IfErr, refl, sym, subst}
use Rattle.std.specs.declared.option.Option.{Option}
use Rattle.std.specs.declared.result.Result.{Result}
use Rattle.derivation_graph.specs.Graphs.{IsGraphAnswer}
use Rattle.derivation_graph.specs.declared.GraphFault.{GraphFault}
use Rattle.derivation_graph.specs.declared.GraphFault.TheVariants as graph_fault
use Rattle.dk_syntax.specs.declared.Problem.{Problem}
use Rattle.tptp_text.specs.Text.{IsReadAnswer}
use Rattle.tptp_text.specs.declared.TptpFault.{TptpFault}
use Rattle.tptp_text.specs.declared.TptpFault.TheVariants as text_fault
use Rattle.tstp_trace.specs.Problems.{IsProblemAnswer}
use Rattle.tstp_trace.specs.Traces.{IsTraceAnswer}
use Rattle.tstp_trace.specs.declared.ProblemFault.{ProblemFault}
use Rattle.tstp_trace.specs.declared.ProblemFault.TheVariants as problem_fault
use Rattle.tstp_trace.specs.declared.Trace.{Trace}
use Rattle.tstp_trace.specs.declared.TraceFault.{TraceFault}
use Rattle.tstp_trace.specs.declared.TraceFault.TheVariants as trace_fault
use Rattle.step_check.specs.Steps.{nodes_of}
use Rattle.dk_cli.specs.Answer.{IsOfTrace, IsReadFault}
use Rattle.dk_cli.specs.Derivations.{IsDerivationIn, IsDerivationOf, IsDerivedBy, IsGraphIn, IsProblemIn, IsText, IsTraceIn, byte_limit, derivation, graph_refusal, problem_refusal, text_refusal, trace_refusal}
use Rattle.dk_cli.specs.Stages.{Follows, IsToldBy}
use Rattle.dk_cli.specs.declared.derivation.Derivation.{Derivation}
use Rattle.dk_cli.specs.declared.refusal.File.{File}
use Rattle.dk_cli.specs.declared.refusal.File.TheVariants as file
use Rattle.dk_cli.specs.declared.refusal.Refusal.{Refusal}
use Rattle.dk_cli.specs.declared.refusal.Refusal.TheVariants as refusal
use Rattle.dk_cli.proofs.StageLaws.{Only, only_follows, only_told}

-- ---- files

pub problem_absent : (trace : Option (List ℕ)) → IsDerivationOf None trace (Err (refusal.ReadFault file.Problem))
problem_absent trace = (Err (refusal.ReadFault file.Problem), refl, refl)

pub problem_too_long : (problem : List ℕ) (trace : Option (List ℕ)) → byte_limit < length problem → IsDerivationOf (Some problem) trace (Err (refusal.TooLong file.Problem))
problem_too_long problem trace long = (Err (refusal.TooLong file.Problem), (refl, long), refl)

pub trace_absent : (problem : List ℕ) → length problem ≤ byte_limit → IsDerivationOf (Some problem) None (Err (refusal.ReadFault file.Trace))
trace_absent problem fits = (Ok problem, (refl, fits), (Err (refusal.ReadFault file.Trace), refl, refl))

pub trace_too_long : (problem trace : List ℕ) → length problem ≤ byte_limit → byte_limit < length trace
    → IsDerivationOf (Some problem) (Some trace) (Err (refusal.TooLong file.Trace))
trace_too_long problem trace fits long = (Ok problem, (refl, fits), (Err (refusal.TooLong file.Trace), (refl, long), refl))

pub both_read : (problem trace : List ℕ) (answer : Result Derivation Refusal) → length problem ≤ byte_limit → length trace ≤ byte_limit
    → IsDerivationIn problem trace answer → IsDerivationOf (Some problem) (Some trace) answer
both_read problem trace answer fits trace_fits given = (Ok problem, (refl, fits), (Ok trace, (refl, trace_fits), given))

-- ---- what no later stage refuses

-- neither words, nor reading, nor writing, nor a development is refused
abbrev pub IsLater : Refusal → Type 0
IsLater refusal.Words = ⊥
IsLater (refusal.ReadFault which) = ⊥
IsLater refusal.WriteFault = ⊥
IsLater (refusal.NotDevelopment syntax at) = ⊥
IsLater (refusal.NotTyped fault) = ⊥
IsLater other = Unit {0}

text_later : (which : File) (fault : TptpFault) → IsLater (text_refusal which fault)
text_later which (text_fault.NotTptp at) = tt
text_later which (text_fault.TooDeep at) = tt
text_later which (text_fault.TooMany at) = tt
text_later which text_fault.Memory = tt

problem_later : (fault : ProblemFault) → IsLater (problem_refusal fault)
problem_later (problem_fault.Outside item kind) = tt
problem_later (problem_fault.BadRole item) = tt
problem_later (problem_fault.FreeVariable item name) = tt
problem_later (problem_fault.DuplicateName item) = tt
problem_later (problem_fault.TwoConjectures item) = tt
problem_later problem_fault.Memory = tt

trace_later : (fault : TraceFault) → IsLater (trace_refusal fault)
trace_later (trace_fault.Outside step kind) = tt
trace_later (trace_fault.DuplicateName step) = tt
trace_later (trace_fault.Unsupported step kind) = tt
trace_later trace_fault.Memory = tt

graph_later : (fault : GraphFault) → IsLater (graph_refusal fault)
graph_later (graph_fault.MissingParent step name) = tt
graph_later (graph_fault.Cycle step) = tt
graph_later graph_fault.Memory = tt

problem_in_later : (bytes : List ℕ) (answer : Result Problem Refusal) → IsProblemIn bytes answer → Only IsLater answer
problem_in_later bytes =
    only_follows IsLater (IsText file.Problem bytes) (λ items. IsToldBy problem_refusal (IsProblemAnswer items))
    (only_told IsLater (text_refusal file.Problem) (IsReadAnswer bytes) (text_later file.Problem))
    (λ items. only_told IsLater problem_refusal (IsProblemAnswer items) problem_later)

trace_in_later : (bytes : List ℕ) (answer : Result Trace Refusal) → IsTraceIn bytes answer → Only IsLater answer
trace_in_later bytes =
    only_follows IsLater (IsText file.Trace bytes) (λ items. IsToldBy trace_refusal (IsTraceAnswer items))
    (only_told IsLater (text_refusal file.Trace) (IsReadAnswer bytes) (text_later file.Trace))
    (λ items. only_told IsLater trace_refusal (IsTraceAnswer items) trace_later)

derived_later : (problem : Problem) (trace : Trace) (answer : Result Derivation Refusal) → IsDerivedBy problem trace answer → Only IsLater answer
derived_later problem trace =
    only_follows IsLater (IsGraphIn trace) (λ graph end. end ≡ Ok (derivation problem trace graph))
    (only_told IsLater graph_refusal (IsGraphAnswer (nodes_of trace)) graph_later)
    (λ graph end same. subst (Only IsLater) (sym same) tt)

pub derivation_later : (problem trace : List ℕ) (answer : Result Derivation Refusal) → IsDerivationIn problem trace answer → Only IsLater answer
derivation_later problem trace =
    only_follows IsLater (IsProblemIn problem) (λ found. Follows (IsTraceIn trace) (IsDerivedBy found))
    (problem_in_later problem)
    (λ found. only_follows IsLater (IsTraceIn trace) (IsDerivedBy found) (trace_in_later trace) (derived_later found))

-- ---- what follows for an answer

pub of_trace : (why : Refusal) → IsLater why → IsOfTrace why
of_trace refusal.Words h = absurd h
of_trace refusal.WriteFault h = absurd h
of_trace (refusal.NotDevelopment syntax at) h = absurd h
of_trace (refusal.NotTyped fault) h = absurd h
of_trace other h = tt

pub later_of_trace : {A : Type 0} (answer : Result A Refusal) → Only IsLater answer → IfErr answer IsOfTrace
later_of_trace (Ok text) h = tt
later_of_trace (Err why) h = of_trace why h

pub later_no_read_fault : {A : Type 0} (answer : Result A Refusal) → Only IsLater answer → IsReadFault answer → ⊥
later_no_read_fault (Ok text) h k = k
later_no_read_fault (Err (refusal.ReadFault which)) h k = h
later_no_read_fault (Err other) h k = k
