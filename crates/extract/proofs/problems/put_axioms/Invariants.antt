use Rattle.std.proofs.Common.{◌≡◌, ◌++◌, drop}
use Rattle.extract.specs.StepProblems.{axioms_text}
use Rattle.extract.proofs.problems.put_axioms.Given as goal

-- What is written, joined with what is left, is the whole.
abbrev pub invariant-loop-parent : goal.invariant-loop-parent
invariant-loop-parent l =
    l.out.items ++ axioms_text l.steps l.cth (drop l.parent-index l.parents) ≡ l.fn.out.items ++ axioms_text l.steps l.cth l.parents
