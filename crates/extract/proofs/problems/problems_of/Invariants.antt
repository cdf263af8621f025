use Rattle.std.proofs.Common.{◌≡◌, ◌++◌, ◌+◌, drop}
use Rattle.extract.specs.StepProblems.{problems_from, problems_of}
use Rattle.extract.proofs.problems.problems_of.Given as goal

-- What is written, joined with what is left, is the whole.
abbrev pub invariant-loop-place : goal.invariant-loop-place
invariant-loop-place l =
    l.out.items ++ problems_from l.trace.steps l.graph.parents (1 + l.place) (drop l.place l.trace.steps) ≡ problems_of l.trace.steps l.graph.parents
