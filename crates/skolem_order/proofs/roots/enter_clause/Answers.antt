use Rattle.dk_syntax.specs.declared.Literal.{Literal}
use Rattle.skolem_order.proofs.EnteredLaws.{entered_at}
use Rattle.skolem_order.proofs.roots.enter_clause.Goals as goal

pub loop-literal-preserved : goal.loop-literal-preserved
loop-literal-preserved c =
    entered_at (λ (l : Literal). l.args) c.args.table.now c.loop-literal.table c.enter_all.new.table c.args.clause.now c.loop-literal.literal-index c.literal-item.result c.as_slice.result.now
    c.as_slice.ensures c.loop-literal-test.true c.literal-item.is c.loop-literal.invariant c.in_ok-enter_all.ensures.0
