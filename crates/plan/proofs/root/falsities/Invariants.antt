use Rattle.std.proofs.Common.{take}
use Rattle.plan.proofs.RootMarks.{AreMarks, formulas_of}
use Rattle.plan.proofs.root.falsities.Given as goal

-- the marks of the steps so far
abbrev pub invariant-loop-step : goal.invariant-loop-step
invariant-loop-step l = AreMarks (formulas_of (take l.step-index l.steps)) l.marks
