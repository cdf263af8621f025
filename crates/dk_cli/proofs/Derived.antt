-- What the stages of a derivation give to the next ones.
use Rattle.std.proofs.Common.{◌≡◌, List, [], ◌∷◌, map, Ok, Err, IfOk, refl, sym, ap, subst}
use Rattle.std.specs.declared.result.Result.{Result}
use Rattle.derivation_graph.specs.Graphs.{HasNoCycle, IsGraphAnswer, names_of}
use Rattle.derivation_graph.specs.declared.Graph.{Graph}
use Rattle.tstp_trace.specs.Traces.{names_of as trace_names}
use Rattle.tstp_trace.specs.declared.Step.{Step}
use Rattle.tstp_trace.specs.declared.Trace.{Trace}
use Rattle.step_check.specs.Steps.{node_of, nodes_of}
use Rattle.dk_cli.specs.Derivations.{IsGraphIn, graph_refusal}
use Rattle.dk_cli.specs.Stages.{told_by}
use Rattle.dk_cli.specs.declared.refusal.Refusal.{Refusal}
use Rattle.dk_cli.proofs.StageLaws.{told_found}

-- the answer of the graph, where the stage found one
pub graph_given : (trace : Trace) (graph : Graph) → IsGraphIn trace (Ok graph) → IsGraphAnswer (nodes_of trace) (Ok graph)
graph_given trace graph given = told_found graph_refusal (IsGraphAnswer (nodes_of trace)) graph given

module _ (trace : Trace) (graph : Graph) (derived : IsGraphAnswer (nodes_of trace) (Ok graph)) where
  pub graph_acyclic : HasNoCycle graph.parents
  graph_acyclic = derived.1

-- what holds of all that a call finds holds of what it is told to find
pub told_keeps : {A F : Type 0} (P : A → Type 0) (tell : F → Refusal) (found : Result A F) (answer : Result A Refusal) → answer ≡ told_by tell found → IfOk found P → IfOk answer P
told_keeps P tell (Ok x) answer e h = subst (λ a. IfOk a P) (sym e) h
told_keeps P tell (Err fault) answer e h = subst (λ a. IfOk a P) (sym e) tt

-- the names of the nodes are those of the steps
step_names : (steps : List Step) → map (λ node. node.name) (map node_of steps) ≡ map (λ step. step.name) steps
step_names [] = refl
step_names (step ∷ steps) = ap (λ rest. step.name ∷ rest) (step_names steps)

pub node_names : (trace : Trace) → names_of (nodes_of trace) ≡ trace_names trace
node_names trace = step_names trace.steps
