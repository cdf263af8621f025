use Rattle.std.proofs.Common.{refl}
use Rattle.skolem_order.proofs.EnteredLaws.{entered_at}
use Rattle.skolem_order.specs.Order.{thin_terms}
use Rattle.skolem_order.proofs.roots.enter_thins.Goals as goal

pub loop-thin-preserved : goal.loop-thin-preserved
loop-thin-preserved c =
    entered_at thin_terms c.args.table.now c.loop-thin.table c.enter_thin.new.table c.args.thins.now c.loop-thin.thin-index c.thin-item.result (thin_terms c.thin-item.result)
    refl c.loop-thin-test.true c.thin-item.is c.loop-thin.invariant c.in_ok-enter_thin.ensures
