-- What two files hold: a problem, a trace and the graph of the trace, or the first refusal.
use Rattle.std.specs.Prelude.{◌≡◌, ℕ, ◌<◌, ◌≤◌, List, length, Ok, Err, None, Some}
use Rattle.std.specs.declared.option.Option.{Option}
use Rattle.std.specs.declared.result.Result.{Result}
use Rattle.dk_syntax.specs.declared.Problem.{Problem}
use Rattle.derivation_graph.specs.Graphs.{IsGraphAnswer}
use Rattle.derivation_graph.specs.declared.Graph.{Graph}
use Rattle.derivation_graph.specs.declared.GraphFault.{GraphFault}
use Rattle.derivation_graph.specs.declared.GraphFault.TheVariants as graph_fault
use Rattle.step_check.specs.Steps.{nodes_of}
use Rattle.tptp_text.specs.Text.{IsReadAnswer}
use Rattle.tptp_text.specs.declared.Item.{Item}
use Rattle.tptp_text.specs.declared.TptpFault.{TptpFault}
use Rattle.tptp_text.specs.declared.TptpFault.TheVariants as text_fault
use Rattle.tstp_trace.specs.Problems.{IsProblemAnswer}
use Rattle.tstp_trace.specs.Traces.{IsTraceAnswer}
use Rattle.tstp_trace.specs.declared.ProblemFault.{ProblemFault}
use Rattle.tstp_trace.specs.declared.ProblemFault.TheVariants as problem_fault
use Rattle.tstp_trace.specs.declared.Trace.{Trace}
use Rattle.tstp_trace.specs.declared.TraceFault.{TraceFault}
use Rattle.tstp_trace.specs.declared.TraceFault.TheVariants as trace_fault
use Rattle.words.specs.Commands.{Names}
use Rattle.dk_cli.specs.Stages.{Follows, IsToldBy}
use Rattle.dk_cli.specs.declared.derivation.Derivation.{Derivation}
use Rattle.dk_cli.specs.declared.refusal.File.{File}
use Rattle.dk_cli.specs.declared.refusal.File.TheVariants as file
use Rattle.dk_cli.specs.declared.refusal.ItemFault.TheVariants as item_fault
use Rattle.dk_cli.specs.declared.refusal.Refusal.{Refusal}
use Rattle.dk_cli.specs.declared.refusal.Refusal.TheVariants as refusal
use Rattle.dk_cli.specs.declared.refusal.StepFault.TheVariants as step_fault

-- ---- files

-- The most bytes that a file may have.
abbrev pub byte_limit : ℕ
byte_limit = 16777216

-- The bytes of a file, which may be absent or too long.
abbrev pub IsFile : File → Option (List ℕ) → Result (List ℕ) Refusal → Type 0
IsFile which None answer = answer ≡ Err (refusal.ReadFault which)
IsFile which (Some bytes) (Ok found) = (found ≡ bytes) × (length bytes ≤ byte_limit)
IsFile which (Some bytes) (Err (refusal.TooLong other)) = (other ≡ which) × (byte_limit < length bytes)
IsFile which (Some bytes) (Err other) = ⊥

-- ---- texts

abbrev pub text_refusal : File → TptpFault → Refusal
text_refusal which (text_fault.NotTptp at) = refusal.NotTptp which at
text_refusal which (text_fault.TooDeep at) = refusal.TooDeep which at
text_refusal which (text_fault.TooMany at) = refusal.TooManyItems which
text_refusal which text_fault.Memory = refusal.Memory

-- The items that the bytes of a file spell.
abbrev pub IsText : File → List ℕ → Result (List Item) Refusal → Type 0
IsText which bytes answer = IsToldBy (text_refusal which) (IsReadAnswer bytes) answer

-- ---- problem and trace

abbrev pub problem_refusal : ProblemFault → Refusal
problem_refusal (problem_fault.Outside item kind) = refusal.Item item (item_fault.Outside kind)
problem_refusal (problem_fault.BadRole item) = refusal.Item item item_fault.BadRole
problem_refusal (problem_fault.FreeVariable item name) = refusal.Item item (item_fault.FreeVariable name)
problem_refusal (problem_fault.DuplicateName item) = refusal.Item item item_fault.DuplicateName
problem_refusal (problem_fault.TwoConjectures item) = refusal.Item item item_fault.SecondConjecture
problem_refusal problem_fault.Memory = refusal.Memory

abbrev pub trace_refusal : TraceFault → Refusal
trace_refusal (trace_fault.Outside step kind) = refusal.Step step (step_fault.Outside kind)
trace_refusal (trace_fault.DuplicateName step) = refusal.Step step step_fault.DuplicateName
trace_refusal (trace_fault.Unsupported step kind) = refusal.Step step (step_fault.Unsupported kind)
trace_refusal trace_fault.Memory = refusal.Memory

-- The problem that the bytes of its file are.
abbrev pub IsProblemIn : List ℕ → Result Problem Refusal → Type 0
IsProblemIn bytes answer = Follows (IsText file.Problem bytes) (λ items. IsToldBy problem_refusal (IsProblemAnswer items)) answer

-- The trace that the bytes of its file are.
abbrev pub IsTraceIn : List ℕ → Result Trace Refusal → Type 0
IsTraceIn bytes answer = Follows (IsText file.Trace bytes) (λ items. IsToldBy trace_refusal (IsTraceAnswer items)) answer

-- ---- graph

abbrev pub graph_refusal : GraphFault → Refusal
graph_refusal (graph_fault.MissingParent step name) = refusal.Step step (step_fault.MissingParent name)
graph_refusal (graph_fault.Cycle step) = refusal.Step step step_fault.Cycle
graph_refusal graph_fault.Memory = refusal.Memory

-- The graph of a trace.
abbrev pub IsGraphIn : Trace → Result Graph Refusal → Type 0
IsGraphIn trace answer = IsToldBy graph_refusal (IsGraphAnswer (nodes_of trace)) answer

-- ---- the whole

abbrev pub derivation : Problem → Trace → Graph → Derivation
derivation problem trace graph = record { problem = problem; trace = trace; graph = graph }

-- The derivation of a problem and a trace that were built.
abbrev pub IsDerivedBy : Problem → Trace → Result Derivation Refusal → Type 0
IsDerivedBy problem trace answer = Follows (IsGraphIn trace) (λ graph end. end ≡ Ok (derivation problem trace graph)) answer

-- The derivation that the bytes of two files hold.
abbrev pub IsDerivationIn : List ℕ → List ℕ → Result Derivation Refusal → Type 0
IsDerivationIn problem trace answer = Follows (IsProblemIn problem) (λ found. Follows (IsTraceIn trace) (IsDerivedBy found)) answer

-- The derivation of two files, either of which may be absent. Each stage comes only where those before it
-- refuse nothing, so the refusals stand in their order.
abbrev pub IsDerivationOf : Option (List ℕ) → Option (List ℕ) → Result Derivation Refusal → Type 0
IsDerivationOf problem trace answer = Follows (IsFile file.Problem problem) (λ first. Follows (IsFile file.Trace trace) (IsDerivationIn first)) answer

-- The derivation of the files of these names.
abbrev pub IsDerivationAt : Names → (List ℕ → Option (List ℕ)) → Result Derivation Refusal → Type 0
IsDerivationAt names files answer = IsDerivationOf (files names.problem) (files names.trace) answer
