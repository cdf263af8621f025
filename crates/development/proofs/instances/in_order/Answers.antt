use Rattle.std.proofs.Common.{◌∙◌, arith}
use Rattle.lp_term.specs.View.{term_of}
use Rattle.development.proofs.OrderSteps.{in_order_step}
use Rattle.development.proofs.instances.in_order.Goals as goal

pub loop-left-preserved : goal.loop-left-preserved
loop-left-preserved c =
    in_order_step c.loop-left.left (term_of c.loop-left.all) (term_of c.in_ok-all.all) (term_of c.variable.result) (omega arith) c.in_ok-all.ensures c.variable.ensures
    ∙ c.loop-left.invariant
