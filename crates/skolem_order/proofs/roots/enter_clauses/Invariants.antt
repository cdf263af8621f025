use Rattle.std.proofs.Common.{take}
use Rattle.std.specs.List.{flat_map}
use Rattle.skolem_order.specs.Order.{clause_terms}
use Rattle.skolem_order.specs.Tables.{HasEntered}
use Rattle.skolem_order.proofs.roots.enter_clauses.Given as goal

abbrev pub invariant-loop-clause : goal.invariant-loop-clause
invariant-loop-clause l = HasEntered l.fn.table (flat_map clause_terms (take l.clause-index l.clauses)) l.table
