use Rattle.std.proofs.Common.{ap}
use Rattle.skolem_order.proofs.EnteredLaws.{entered_at}
use Rattle.skolem_order.specs.Order.{clause_terms}
use Rattle.skolem_order.proofs.roots.enter_clauses.Goals as goal

pub loop-clause-preserved : goal.loop-clause-preserved
loop-clause-preserved c =
    entered_at clause_terms c.args.table.now c.loop-clause.table c.enter_clause.new.table c.args.clauses.now c.loop-clause.clause-index c.clause-item.result (clause_terms c.as_slice.result.now)
    (ap clause_terms c.as_slice.ensures) c.loop-clause-test.true c.clause-item.is c.loop-clause.invariant c.in_ok-enter_clause.ensures
