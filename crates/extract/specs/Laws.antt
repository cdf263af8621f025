-- What holds of the definitions.
use Rattle.std.specs.Prelude.{◌≡◌, ℕ, map, Some, Ok}
use Rattle.std.specs.Option.{option_map}
use Rattle.derivation_graph.specs.Graphs.{IsGraphAnswer, parents_in}
use Rattle.derivation_graph.specs.declared.graph.Graph.{Graph}
use Rattle.step_check.specs.Steps.{nodes_of, parent_names, step_in}
use Rattle.tstp_trace.specs.declared.step.Step.{Step}
use Rattle.tstp_trace.specs.declared.step.Trace.{Trace}

-- In the graph of a trace, the numbers of a step's parents are those of the steps that it names, in the order in which it names them.
abbrev pub ParentsAreNamed : Type 0
ParentsAreNamed =
    (trace : Trace) (graph : Graph) (number : ℕ) (step : Step) → IsGraphAnswer (nodes_of trace) (Ok graph) → step_in trace.steps number ≡ Some step
    → map (λ parent. option_map (λ one. one.name) (step_in trace.steps parent)) (parents_in graph.parents number) ≡ map Some (parent_names step.source)
