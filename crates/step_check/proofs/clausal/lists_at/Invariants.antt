-- The lists so far.
use Rattle.std.proofs.Common.{take}
use Rattle.step_check.specs.Notes.{case_given}
use Rattle.step_check.specs.Verdicts.{AreLists}
use Rattle.step_check.proofs.clausal.lists_at.Given as goal

abbrev pub invariant-loop-number : goal.invariant-loop-number
invariant-loop-number l = AreLists (case_given l.given) (take l.number-index l.numbers) l.lists
