use Rattle.std.proofs.Common.{◌≡◌, map, take}
use Rattle.step_check.specs.Steps.{node_of}
use Rattle.plan.proofs.graph.nodes.Given as goal

abbrev pub invariant-loop-step : goal.invariant-loop-step
invariant-loop-step l = l.all ≡ map node_of (take l.step-index l.trace.steps)
