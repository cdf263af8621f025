use Rattle.std.proofs.Common.{◌≡◌, length}
use Rattle.dedukti_read.specs.Machine.{are_same}
use Rattle.dedukti_read.proofs.step.are_same.Given as goal

abbrev pub decreases-loop-left : goal.decreases-loop-left
decreases-loop-left l = length l.left

abbrev pub invariant-loop-left : goal.invariant-loop-left
invariant-loop-left l = are_same l.left l.right ≡ are_same l.names l.others
