use Rattle.std.proofs.Common.{take}
use Rattle.ground_instances.specs.Marks.{Marks}
use Rattle.ground_instances.proofs.variables.+mark_term.Given as goal

-- the terms so far are marked
abbrev pub invariant-mark_terms-loop-term : goal.invariant-mark_terms-loop-term
invariant-mark_terms-loop-term l = Marks l.initial.marks (take l.term-index l.terms) l.marks
