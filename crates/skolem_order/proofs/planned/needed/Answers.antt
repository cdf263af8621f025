use Rattle.std.proofs.lemmas.Result.{IfOk-weaker}
use Rattle.skolem_order.proofs.RankLaws.{needed_there}
use Rattle.skolem_order.specs.Order.{AreGround, AreNeeded, root_terms}
use Rattle.skolem_order.specs.Ranks.{AreInOrder}
use Rattle.skolem_order.proofs.planned.needed.Goals as goal

pub returns-clause-needed : goal.returns-clause-needed
returns-clause-needed c =
    let os = c.args.o.now.list in
    let roots = root_terms c.args.thins.now c.args.clauses.now in
    IfOk-weaker c.in_order.result (λ order. AreInOrder c.as_slice-origins.result.now c.close.new.table order) (λ order. AreGround roots → AreNeeded os roots order)
    (λ order e. needed_there os c.as_slice-origins.result.now c.args.thins.now c.as_slice.result.now c.args.clauses.now c.as_slice-2.result.now c.in_ok-table.table c.enter_roots.new.table c.close.new.table order
    c.as_slice-origins.ensures c.as_slice.ensures c.as_slice-2.ensures c.in_ok-table.ensures c.in_ok-enter_roots.ensures c.in_ok-close.ensures e) c.in_order.ensures.order
