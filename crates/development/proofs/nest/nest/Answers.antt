use Rattle.std.proofs.Common.{◌≡◌, ◌-◌, length, get_or, sym, ap, ◌∙◌, arith}
use Rattle.lp_term.specs.View.{term_of}
use Rattle.development.proofs.NestSteps.{nested_step, popped}
use Rattle.development.proofs.nest.nest.Goals as goal

pub loop-left-preserved : goal.loop-left-preserved
loop-left-preserved c =
    let given = c.args.given.now in
    let plan = given.plan.now in
    let t = c.index-order-left.result in
    let at : get_or plan.order (c.loop-left.left - 1) t ≡ t = ap (λ l. get_or l (c.loop-left.left - 1) t) (sym c.as_slice-order.ensures) ∙ sym c.index-order-left.is in
    let count : length c.pop.new.self ≡ c.loop-left.left - 1 = popped c.loop-left.known c.pop.new.self c.pop.result c.loop-left.left c.pop.ensures c.loop-left.invariant.1 c.loop-left-test.true in (
      omega arith,
      count,
      nested_step plan.origins.list plan.order given.denied given.first c.loop-left.left (length c.pop.new.self) t (term_of c.args.conjecture.now) (term_of c.loop-left.all) (term_of c.in_ok-all.all)
          (term_of c.args.inside) (omega arith) c.loop-left.invariant.0 at count c.in_ok-all.ensures c.loop-left.invariant.2,
    )
