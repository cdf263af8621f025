use Rattle.std.proofs.Common.{take}
use Rattle.skolem_order.specs.Tables.{AreEntered}
use Rattle.skolem_order.proofs.entering.+enter.Given as goal

abbrev pub invariant-enter_all-loop-term : goal.invariant-enter_all-loop-term
invariant-enter_all-loop-term l = AreEntered l.fn.table (take l.term-index l.terms) l.table l.numbers
