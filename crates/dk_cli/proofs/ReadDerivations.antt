-- What a derivation holds that was read from two files.
use Rattle.std.proofs.Common.{◌≡◌, ℕ, zero, suc, ◌<◌, List, length, get_or, Ok, None, Some, refl, sym, ap, subst}
use Rattle.std.proofs.lemmas.List.Elements.{All-get_or}
use Rattle.std.proofs.lemmas.Option.{get_or_from_slice_get, slice_get_within}
use Rattle.std.proofs.lemmas.List.{map-append}
use Rattle.std.specs.Prelude.{All, option_to_list}
use Rattle.std.specs.declared.option.Option.{Option}
use Rattle.derivation_graph.specs.Graphs.{HasNoCycle}
use Rattle.derivation_graph.specs.declared.Graph.{Graph}
use Rattle.dk_syntax.specs.Problems.{HasItsSymbols}
use Rattle.dk_syntax.specs.declared.Problem.{Problem}
use Rattle.dk_syntax.specs.declared.Named.{Named}
use Rattle.plan.specs.Laws.{AreWellFormed}
use Rattle.plan_typing.specs.Laws.{item_names}
use Rattle.tptp_text.proofs.TextLaws.{proper_items}
use Rattle.tptp_text.specs.ProperItems.{IsProper}
use Rattle.tptp_text.specs.Text.{IsReadAnswer}
use Rattle.tptp_text.specs.declared.Item.{Item}
use Rattle.tstp_trace.proofs.KeptLaws.{distinct_problem}
use Rattle.tstp_trace.proofs.ProperLaws.{proper_problem, proper_trace}
use Rattle.tstp_trace.specs.Names.{AreDistinct}
use Rattle.tstp_trace.specs.Problems.{HasProperFormulas, IsProblemAnswer, IsProblemOf}
use Rattle.tstp_trace.specs.Traces.{HasProperSteps, IsTraceAnswer}
use Rattle.tstp_trace.specs.declared.Step.{Step}
use Rattle.tstp_trace.specs.declared.Trace.{Trace}
use Rattle.dk_cli.specs.Derivations.{IsDerivationIn, IsDerivationOf, IsDerivedBy, IsFile, IsGraphIn, IsProblemIn, IsText, IsTraceIn, derivation, problem_refusal, text_refusal, trace_refusal}
use Rattle.dk_cli.specs.Stages.{Follows, IsToldBy}
use Rattle.dk_cli.specs.Steps.{AreRead}
use Rattle.dk_cli.specs.declared.derivation.Derivation.{Derivation}
use Rattle.dk_cli.specs.declared.refusal.File.{File}
use Rattle.dk_cli.specs.declared.refusal.File.TheVariants as file
use Rattle.dk_cli.specs.declared.refusal.Refusal.{Refusal}
use Rattle.dk_cli.proofs.Derived.{graph_acyclic, graph_given}
use Rattle.dk_cli.proofs.StageLaws.{follows_found, found_same, told_found}

-- a file whose bytes were found
file_found : (which : File) (found : Option (List ℕ)) (bytes : List ℕ) → IsFile which found (Ok bytes) → found ≡ Some bytes
file_found which None bytes h = absurd cc
file_found which (Some others) bytes h = ap Some (sym h.0)

-- what a derivation holds comes from the bytes of the two files and has a graph
pub record IsRead (found other : Option (List ℕ)) (d : Derivation) : Type 0 where
  pub bytes : List ℕ
  pub is : found ≡ Some bytes
  pub spelled : IsProblemIn bytes (Ok d.problem)
  pub others : List ℕ
  pub other_is : other ≡ Some others
  pub traced : IsTraceIn others (Ok d.trace)
  pub graphed : IsGraphIn d.trace (Ok d.graph)

read_same : (found other : Option (List ℕ)) (d : Derivation) (bytes others : List ℕ) (problem : Problem) (trace : Trace) (graph : Graph) → found ≡ Some bytes → other ≡ Some others
    → IsProblemIn bytes (Ok problem) → IsTraceIn others (Ok trace) → IsGraphIn trace (Ok graph) → d ≡ derivation problem trace graph → IsRead found other d
read_same found other d bytes others problem trace graph is other_is spelled traced graphed same =
    subst (IsRead found other) (sym same) record { bytes = bytes; is = is; spelled = spelled; others = others; other_is = other_is; traced = traced; graphed = graphed }

pub bytes_read : (bytes others : List ℕ) (d : Derivation) → IsDerivationIn bytes others (Ok d) → IsRead (Some bytes) (Some others) d
bytes_read bytes others d h =
    let spelled = follows_found (IsProblemIn bytes) (λ problem. Follows (IsTraceIn others) (IsDerivedBy problem)) d h in
    let traced = follows_found (IsTraceIn others) (IsDerivedBy spelled.0) d spelled.2 in
    let graphed = follows_found (IsGraphIn traced.0) (λ graph end. end ≡ Ok (derivation spelled.0 traced.0 graph)) d traced.2 in
    read_same (Some bytes) (Some others) d bytes others spelled.0 traced.0 graphed.0 refl refl
    spelled.1 traced.1 graphed.1 (found_same {F = Refusal} d (derivation spelled.0 traced.0 graphed.0) graphed.2)

pub derivation_read : (found other : Option (List ℕ)) (d : Derivation) → IsDerivationOf found other (Ok d) → IsRead found other d
derivation_read found other d h =
    let first = follows_found (IsFile file.Problem found) (λ bytes. Follows (IsFile file.Trace other) (IsDerivationIn bytes)) d h in
    let second = follows_found (IsFile file.Trace other) (IsDerivationIn first.0) d first.2 in
    subst (λ f. IsRead f other d) (sym (file_found file.Problem found first.0 first.1))
    (subst (λ o. IsRead (Some first.0) o d) (sym (file_found file.Trace other second.0 second.1)) (bytes_read first.0 second.0 d second.2))

-- no step of it is on a cycle
pub read_acyclic : (found other : Option (List ℕ)) (d : Derivation) → IsRead found other d → HasNoCycle d.graph.parents
read_acyclic found other d read = graph_acyclic d.trace d.graph (graph_given d.trace d.graph read.graphed)

-- ---- what holds of what was read

module _ (bytes : List ℕ) (problem : Problem) (h : IsProblemIn bytes (Ok problem)) where
  -- its items
  items_of_problem : (items : List Item) × IsReadAnswer bytes (Ok items) × IsProblemOf items problem
  items_of_problem =
      let read = follows_found (IsText file.Problem bytes) (λ items. IsToldBy problem_refusal (IsProblemAnswer items)) problem h in
      (read.0, told_found (text_refusal file.Problem) (IsReadAnswer bytes) read.0 read.1, told_found problem_refusal (IsProblemAnswer read.0) problem read.2)

  -- a problem that was read has its symbols
  problem_has_symbols : HasItsSymbols problem
  problem_has_symbols = items_of_problem.2.symbols

  -- its formulas are proper
  problem_is_proper : HasProperFormulas problem
  problem_is_proper = let read = items_of_problem in proper_problem read.0 problem read.2 (proper_items bytes (Ok read.0) read.1)

  -- and its names are distinct
  problem_has_names : AreDistinct (item_names problem)
  problem_has_names =
      let read = items_of_problem in
      subst AreDistinct (sym (map-append (λ (named : Named). named.name) problem.hyps (option_to_list problem.conjecture))) (distinct_problem read.0 problem read.2)

-- a trace that was read has proper steps
trace_is_proper : (bytes : List ℕ) (trace : Trace) → IsTraceIn bytes (Ok trace) → HasProperSteps trace
trace_is_proper bytes trace h =
    let read = follows_found (IsText file.Trace bytes) (λ items. IsToldBy trace_refusal (IsTraceAnswer items)) trace h in
    let items : IsReadAnswer bytes (Ok read.0) = told_found (text_refusal file.Trace) (IsReadAnswer bytes) read.0 read.1 in
    let is : IsTraceAnswer read.0 (Ok trace) = told_found trace_refusal (IsTraceAnswer read.0) trace read.2 in
    proper_trace read.0 trace is (proper_items bytes (Ok read.0) items)

steps_well_formed : (steps : List Step) → All (λ step. IsProper step.formula) steps → AreWellFormed steps
steps_well_formed steps proper zero step is = absurd cc
steps_well_formed steps proper (suc place) step is =
    let below : place < length steps = slice_get_within steps place step is in
    let there : get_or steps place step ≡ step = get_or_from_slice_get steps place step step is in
    (subst (λ (s : Step). IsProper s.formula) there (All-get_or (λ (s : Step). IsProper s.formula) steps place step below proper)).well_formed

pub read_symbols : (found other : Option (List ℕ)) (d : Derivation) → IsRead found other d → HasItsSymbols d.problem
read_symbols found other d read = problem_has_symbols read.bytes d.problem read.spelled

steps_are_formed : (bytes : List ℕ) (trace : Trace) → IsTraceIn bytes (Ok trace) → AreWellFormed trace.steps
steps_are_formed bytes trace h = steps_well_formed trace.steps (trace_is_proper bytes trace h)

pub read_formed : (found other : Option (List ℕ)) (d : Derivation) → IsRead found other d → AreWellFormed d.trace.steps
read_formed found other d read = steps_are_formed read.others d.trace read.traced

pub are_read : (bytes others : List ℕ) (problem : Problem) (trace : Trace) → IsProblemIn bytes (Ok problem) → IsTraceIn others (Ok trace) → AreRead problem trace
are_read bytes others problem trace spelled traced = record {
  proper = problem_is_proper bytes problem spelled;
  symbols = problem_has_symbols bytes problem spelled;
  items = problem_has_names bytes problem spelled;
  formed = steps_are_formed others trace traced;
}
