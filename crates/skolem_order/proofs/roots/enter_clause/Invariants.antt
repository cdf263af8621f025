use Rattle.std.proofs.Common.{take}
use Rattle.skolem_order.specs.Order.{clause_terms}
use Rattle.skolem_order.specs.Tables.{HasEntered}
use Rattle.skolem_order.proofs.roots.enter_clause.Given as goal

abbrev pub invariant-loop-literal : goal.invariant-loop-literal
invariant-loop-literal l = HasEntered l.fn.table (clause_terms (take l.literal-index l.clause)) l.table
