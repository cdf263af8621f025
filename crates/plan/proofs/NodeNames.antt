-- The names of nodes.
use Rattle.std.proofs.Common.{◌≡◌, List, [], ◌∷◌, map, refl, ap}
use Rattle.derivation_graph.specs.Graphs.{names_of}
use Rattle.step_check.specs.Steps.{node_of, nodes_of}
use Rattle.tstp_trace.specs.Traces.{names_of as trace_names}
use Rattle.tstp_trace.specs.declared.step.Step.{Step}
use Rattle.tstp_trace.specs.declared.step.Trace.{Trace}

step_names : (steps : List Step) → map (λ node. node.name) (map node_of steps) ≡ map (λ step. step.name) steps
step_names [] = refl
step_names (step ∷ steps) = ap (λ rest. step.name ∷ rest) (step_names steps)

-- the names of the nodes are those of the steps
pub node_names : (trace : Trace) → names_of (nodes_of trace) ≡ trace_names trace
node_names trace = step_names trace.steps
