-- A command has one outcome on its files.
use Rattle.std.proofs.Common.{◌≡◌, ℕ, List, Ok, Err, None, Some, sym, ◌∙◌, ap, arith}
use Rattle.std.specs.declared.option.Option.{Option}
use Rattle.std.specs.declared.result.Result.{Result}
use Rattle.derivation_graph.specs.Graphs.{IsGraphAnswer}
use Rattle.derivation_graph.specs.declared.GraphFault.TheVariants as graph_fault
use Rattle.dk_syntax.specs.declared.Problem.{Problem}
use Rattle.tptp_text.specs.Text.{IsReadAnswer}
use Rattle.tptp_text.specs.declared.TptpFault.TheVariants as text_fault
use Rattle.tstp_trace.specs.Problems.{IsProblemAnswer}
use Rattle.tstp_trace.specs.Traces.{IsTraceAnswer}
use Rattle.tstp_trace.specs.declared.ProblemFault.TheVariants as problem_fault
use Rattle.tstp_trace.specs.declared.Trace.{Trace}
use Rattle.tstp_trace.specs.declared.TraceFault.TheVariants as trace_fault
use Rattle.dk_cli.specs.Checking.{IsCheckedIn}
use Rattle.words.specs.Commands.{Names}
use Rattle.dk_cli.specs.Commands.{Command, check, convert, expansion, extract, generate, help, steps}
use Rattle.dk_cli.specs.Conversion.{IsDeveloped}
use Rattle.dk_cli.specs.Derivations.{IsDerivationAt, IsDerivationIn, IsDerivedBy, IsFile, IsGraphIn, IsProblemIn, IsText, IsTraceIn, derivation, graph_refusal, problem_refusal, text_refusal, trace_refusal}
use Rattle.dk_cli.specs.Outcome.{IsGiven, IsOutcome}
use Rattle.dk_cli.specs.Expansion.{IsExpanded}
use Rattle.dk_cli.specs.Extraction.{IsExtracted}
use Rattle.dk_cli.specs.Generation.{IsGenerated, IsSummed}
use Rattle.generator.specs.Files.{problem_text, trace_text}
use Rattle.dk_cli.specs.StepReport.{IsReported}
use Rattle.dk_cli.specs.Stages.{Follows, IsToldBy}
use Rattle.dk_cli.specs.declared.derivation.Derivation.{Derivation}
use Rattle.dk_cli.specs.declared.refusal.File.{File}
use Rattle.dk_cli.specs.declared.refusal.File.TheVariants as file
use Rattle.dk_cli.specs.declared.refusal.Refusal.{Refusal}
use Rattle.dk_cli.specs.declared.refusal.Refusal.TheVariants as refusal
use Rattle.dk_cli.specs.declared.syntax.Syntax.{Syntax}
use Rattle.step_check.specs.Steps.{nodes_of}
use Rattle.dk_cli.proofs.CheckLaws.{one_checked_in}
use Rattle.dk_cli.proofs.ConversionLaws.{one_developed}
use Rattle.dk_cli.proofs.GenerationLaws.{one_summed}
use Rattle.dk_cli.proofs.JudgingLaws.{one_reported}
use Rattle.dk_cli.proofs.OneExpansion.{one_expanded}
use Rattle.dk_cli.proofs.ReadDerivations.{IsRead, bytes_read, derivation_read, read_acyclic, read_formed, read_symbols}
use Rattle.plan_symbols.proofs.NoOthers.{roots_are_well_formed}
use Rattle.dk_cli.proofs.StageLaws.{IsOne, one_of_found, one_of_two, one_told}
use Rattle.tptp_text.proofs.TextLaws.{one_reading}
use Rattle.derivation_graph.proofs.AnswerLaws.{one_graph}
use Rattle.tstp_trace.proofs.AnswerLaws.{one_problem, one_trace}

-- ---- each stage

one_file : (which : File) (found : Option (List ℕ)) → IsOne refusal.Memory (IsFile which found)
one_file which None one other h k not_one not_other = h ∙ sym k
one_file which (Some bytes) (Ok one) (Ok other) h k not_one not_other = ap Ok (h.0 ∙ sym k.0)
one_file which (Some bytes) (Ok one) (Err (refusal.TooLong file)) h k not_one not_other = let fits = h.1 in let long = k.1 in absurd (omega arith)
one_file which (Some bytes) (Ok one) (Err why) h k not_one not_other = absurd k
one_file which (Some bytes) (Err (refusal.TooLong file)) (Ok other) h k not_one not_other = let fits = k.1 in let long = h.1 in absurd (omega arith)
one_file which (Some bytes) (Err (refusal.TooLong file)) (Err (refusal.TooLong another)) h k not_one not_other = ap (λ f. Err (refusal.TooLong f)) (h.0 ∙ sym k.0)
one_file which (Some bytes) (Err (refusal.TooLong file)) (Err why) h k not_one not_other = absurd k
one_file which (Some bytes) (Err why) other h k not_one not_other = absurd h

one_text : (which : File) (bytes : List ℕ) → IsOne refusal.Memory (IsText which bytes)
one_text which bytes = one_told (text_refusal which) text_fault.Memory (λ fault e. ap (text_refusal which) e) (IsReadAnswer bytes) (one_reading bytes)

one_problem_in : (bytes : List ℕ) → IsOne refusal.Memory (IsProblemIn bytes)
one_problem_in bytes =
    one_of_two (IsText file.Problem bytes) (λ items. IsToldBy problem_refusal (IsProblemAnswer items)) (one_text file.Problem bytes)
    (λ items. one_told problem_refusal problem_fault.Memory (λ fault e. ap problem_refusal e) (IsProblemAnswer items) (one_problem items))

one_trace_in : (bytes : List ℕ) → IsOne refusal.Memory (IsTraceIn bytes)
one_trace_in bytes =
    one_of_two (IsText file.Trace bytes) (λ items. IsToldBy trace_refusal (IsTraceAnswer items)) (one_text file.Trace bytes)
    (λ items. one_told trace_refusal trace_fault.Memory (λ fault e. ap trace_refusal e) (IsTraceAnswer items) (one_trace items))

one_graph_in : (trace : Trace) → IsOne refusal.Memory (IsGraphIn trace)
one_graph_in trace = one_told graph_refusal graph_fault.Memory (λ fault e. ap graph_refusal e) (IsGraphAnswer (nodes_of trace)) (one_graph (nodes_of trace))

one_derived_by : (problem : Problem) (trace : Trace) → IsOne refusal.Memory (IsDerivedBy problem trace)
one_derived_by problem trace =
    one_of_two (IsGraphIn trace) (λ graph end. end ≡ Ok (derivation problem trace graph)) (one_graph_in trace) (λ graph one other h k not_one not_other. h ∙ sym k)

one_derivation_in : (problem trace : List ℕ) → IsOne refusal.Memory (IsDerivationIn problem trace)
one_derivation_in problem trace =
    one_of_two (IsProblemIn problem) (λ found. Follows (IsTraceIn trace) (IsDerivedBy found)) (one_problem_in problem)
    (λ found. one_of_two (IsTraceIn trace) (IsDerivedBy found) (one_trace_in trace) (one_derived_by found))

one_derivation : (names : Names) (files : List ℕ → Option (List ℕ)) → IsOne refusal.Memory (IsDerivationAt names files)
one_derivation names files =
    one_of_two (IsFile file.Problem (files names.problem)) (λ first. Follows (IsFile file.Trace (files names.trace)) (IsDerivationIn first)) (one_file file.Problem (files names.problem))
    (λ first. one_of_two (IsFile file.Trace (files names.trace)) (IsDerivationIn first) (one_file file.Trace (files names.trace)) (one_derivation_in first))

-- ---- the whole

module _ (found other : Option (List ℕ)) (d : Derivation) (read : IsRead found other d) where
  one_developed_of : (syntax : Syntax) (limit : ℕ) → IsOne refusal.Memory (IsDeveloped syntax limit d)
  one_developed_of syntax limit = one_developed roots_are_well_formed syntax limit d (read_acyclic found other d read) (read_symbols found other d read) (read_formed found other d read)

  one_expanded_of : (limit : ℕ) → IsOne refusal.Memory (IsExpanded limit d)
  one_expanded_of limit = one_expanded roots_are_well_formed limit d (read_acyclic found other d read) (read_symbols found other d read) (read_formed found other d read)

  one_summed_of : (number : ℕ) → IsOne refusal.Memory (IsSummed number d)
  one_summed_of number = one_summed roots_are_well_formed number d (read_acyclic found other d read) (read_symbols found other d read) (read_formed found other d read)

-- what the family's member of a number gives
pub one_generated : (number : ℕ) → IsOne refusal.Memory (IsGenerated number)
one_generated number =
    let problem = problem_text number in
    let trace = trace_text number in
    one_of_found (IsDerivationIn problem trace) (IsSummed number) (one_derivation_in problem trace)
    (λ d read. one_summed_of (Some problem) (Some trace) d (bytes_read problem trace d read) number)

one_given : (command : Command) (files : List ℕ → Option (List ℕ)) → IsOne refusal.Memory (IsGiven command files)
one_given (convert syntax names limit) files =
    one_of_found (IsDerivationAt names files) (IsDeveloped syntax limit) (one_derivation names files)
    (λ d read. one_developed_of (files names.problem) (files names.trace) d (derivation_read (files names.problem) (files names.trace) d read) syntax limit)
one_given (steps names) files = one_of_two (IsDerivationAt names files) IsReported (one_derivation names files) one_reported
one_given (extract names) files = one_of_two (IsDerivationAt names files) IsExtracted (one_derivation names files) (λ d one other h k not_one not_other. h ∙ sym k)
one_given (expansion names limit) files =
    one_of_found (IsDerivationAt names files) (IsExpanded limit) (one_derivation names files)
    (λ d read. one_expanded_of (files names.problem) (files names.trace) d (derivation_read (files names.problem) (files names.trace) d read) limit)
one_given (check syntax name) files = one_of_two (IsFile file.Development (files name)) (IsCheckedIn syntax) (one_file file.Development (files name)) (one_checked_in syntax)
one_given (generate number) files = one_generated number
one_given help files = λ one other h k not_one not_other. h ∙ sym k

pub one_outcome : (command : Command) (files : List ℕ → Option (List ℕ)) (one other : Result (List ℕ) Refusal) → IsOutcome command files one → IsOutcome command files other → one ≡ other
one_outcome command files one other h k = one_given command files one other h.given k.given h.memory k.memory
