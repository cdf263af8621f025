use Rattle.std.proofs.Common.{◌-◌}
use Rattle.skolem_order.proofs.ClosingLaws.{Closes}
use Rattle.skolem_order.proofs.closing.close.Given as goal

abbrev pub invariant-loop-next : goal.invariant-loop-next
invariant-loop-next l = Closes l.origins l.fn.table l.table l.next

abbrev pub decreases-loop-next : goal.decreases-loop-next
decreases-loop-next l = 4294967296 - l.next
