use Rattle.std.proofs.Common.{◌<◌, ◌≤◌, ◌+◌, List, length, take, sym, subst, arith}
use Rattle.plan.proofs.OriginAnswers.{all_origins_are, origins_next}
use Rattle.plan.specs.Known.{judged_given}
use Rattle.plan.specs.Origins.{AreOriginsFrom}
use Rattle.skolem_order.specs.declared.origins.Origin.{Origin}
use Rattle.plan.proofs.origins.all_origins.Goals as goal

pub loop-place-init : goal.loop-place-init
loop-place-init c = c.new-list.ensures.items

pub loop-place-preserved : goal.loop-place-preserved
loop-place-preserved c =
    let judged = judged_given c.args.given.now in let k = c.loop-place.place in
    let below : k < length judged.verdicts = omega (arith, c.in-Ok.ensures, c.loop-place-test.true) in
    subst (λ (l : List Origin). AreOriginsFrom judged 0 (take (k + 1) judged.verdicts) l) (sym c.in_ok-append.ensures.items)
    (origins_next judged k c.loop-place.list.items c.in_ok-here.here.items below c.loop-place.invariant c.in_ok-here.ensures)

pub returns : goal.returns
returns c =
    let judged = judged_given c.args.given.now in let k = c.loop-place.place in
    let past : length judged.verdicts ≤ k = omega (arith, c.in-Ok.ensures, c.loop-place-test.false) in
    all_origins_are judged k c.loop-place.list.items past c.loop-place.invariant
