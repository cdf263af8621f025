use Rattle.std.proofs.Common.{◌≡◌, map, take}
use Rattle.step_check.specs.Steps.{is_conjecture_leaf}
use Rattle.tstp_trace.specs.declared.Step.{Step}
use Rattle.plan.proofs.root.bars.Given as goal

-- the bars of the steps so far
abbrev pub invariant-loop-step : goal.invariant-loop-step
invariant-loop-step l = l.bars ≡ map (λ (step : Step). is_conjecture_leaf l.problem step.source) (take l.step-index l.trace.steps)
