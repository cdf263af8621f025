use Rattle.std.proofs.Common.{◌≡◌, ◌++◌, ◌+◌, drop}
use Rattle.extract.specs.StepLines.{lines_from, lines_of}
use Rattle.extract.proofs.lines.step_lines.Given as goal

-- What is written, joined with what is left, is the whole.
abbrev pub invariant-loop-place : goal.invariant-loop-place
invariant-loop-place l =
    l.out.items ++ lines_from (1 + l.place) (drop l.place l.trace.steps) (drop l.place l.verdicts.list) ≡ lines_of l.trace.steps l.verdicts.list
