use Rattle.std.proofs.Common.{◌≡◌, false, replicate}
use Rattle.unifier.proofs.occurrence.no_marks.Given as goal

abbrev pub invariant-loop-k : goal.invariant-loop-k
invariant-loop-k l = l.marks.items ≡ replicate l._k false
