-- What is given is sound: the graph is that of the trace.
use Rattle.std.proofs.Common.{◌≡◌, ◌≤◌, ℕ, zero, suc, Bool, true, List, [], ◌∷◌, map, length, get_or, slice_get, Option, Some, Ok, refl, sym, ap, ◌∙◌, subst, arith}
use Rattle.std.proofs.lemmas.List.{length-map}
use Rattle.derivation_graph.proofs.GraphLaws.{rows_stand}
use Rattle.derivation_graph.specs.Graphs.{HasStepsForParents, IsGraphAnswer, names_of, number_of, numbers_of, parents_in, rows_of}
use Rattle.derivation_graph.specs.declared.graph.Graph.{Graph}
use Rattle.dk_syntax.specs.declared.Problem.{Problem}
use Rattle.step_check.proofs.OneRepresentative.{not_both}
use Rattle.step_check.specs.Notes.{IsSound}
use Rattle.step_check.specs.Representatives.{IsLeaf, IsWithin}
use Rattle.step_check.specs.Steps.{Case, case_of, node_of, nodes_of, parent_names}
use Rattle.step_check.specs.Verdicts.{IsWithinAll}
use Rattle.tstp_trace.specs.Traces.{HasFitParents, HaveFitParents}
use Rattle.tstp_trace.specs.declared.step.Step.{Step}
use Rattle.tstp_trace.specs.declared.step.StepSource.{StepSource}
use Rattle.tstp_trace.specs.declared.step.StepSource.TheVariants.{Leaf, Derived}
use Rattle.tstp_trace.specs.declared.step.Trace.{Trace}

source_few : (source : StepSource) → HasFitParents source → length (parent_names source) ≤ 8
source_few (Leaf name) h = omega arith
source_few (Derived cth esa parents) h = h.2

few_rows : (names : List (List ℕ)) (steps : List Step) → HaveFitParents steps → (place : ℕ) → length (get_or (map (numbers_of names) (map node_of steps)) place []) ≤ 8
few_rows names [] fit place = omega arith
few_rows names (step ∷ steps) fit zero =
    let l = length-map (parent_names step.source) (number_of names) in
    let few = source_few step.source (fit 0 step refl) in omega arith
few_rows names (step ∷ steps) fit (suc place) = few_rows names steps (λ k. fit (suc k)) place

few_parents : (names : List (List ℕ)) (steps : List Step) → HaveFitParents steps → (i : ℕ) → length (parents_in (map (numbers_of names) (map node_of steps)) i) ≤ 8
few_parents names steps fit zero = omega arith
few_parents names steps fit (suc place) = few_rows names steps fit place

pub given_sound : (problem : Problem) (trace : Trace) (graph : Graph) → IsGraphAnswer (nodes_of trace) (Ok graph) → HaveFitParents trace.steps → IsSound (case_of problem trace graph)
given_sound problem trace graph h fit =
    let names = names_of (nodes_of trace) in
    let rows : graph.parents ≡ rows_of (nodes_of trace) = h.0.1 in record {
      parents = subst HasStepsForParents (sym rows) (rows_stand (nodes_of trace) h.0.0);
      acyclic = h.1;
      few = λ i. subst (λ x. length (parents_in x i) ≤ 8) (sym rows) (few_parents names trace.steps fit i);
      long = ap length rows ∙ (length-map (nodes_of trace) (numbers_of names) ∙ length-map trace.steps node_of);
    }

-- a leaf has no full image in question
pub leaf_within : (case : Case) (i : ℕ) (name : List ℕ) → IsLeaf case i name → IsWithin case i → IsWithinAll case i
leaf_within case i name h within = record { within = within; full = λ q may. absurd (not_both case i name may.cth true h may.skolem) }
