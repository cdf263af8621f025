use Rattle.skolem_order.proofs.EnteredLaws.{entered_two}
use Rattle.skolem_order.proofs.roots.enter_thin.Goals as goal

pub returns : goal.returns
returns c =
    entered_two c.args.table.now c.enter_all.new.table c.enter_all-2.new.table c.args.thin.now.terms c.args.thin.now.skolems c.as_slice.result.now c.as_slice-2.result.now
    c.in_ok-enter_all.field-0 c.in_ok-enter_all-2.field-0 c.as_slice.ensures c.as_slice-2.ensures c.in_ok-enter_all.ensures c.in_ok-enter_all-2.ensures
