use Rattle.std.proofs.Common.{◌<◌, ◌≤◌, length, arith}
use Rattle.skolem_order.proofs.ClosingLaws.{closes_all, closes_more, closes_none}
use Rattle.skolem_order.proofs.closing.close.Goals as goal

pub loop-next-init : goal.loop-next-init
loop-next-init c = closes_none c.args.origins.now c.args.table.now

pub loop-next-preserved : goal.loop-next-preserved
loop-next-preserved c =
    let less : c.loop-next.next < length c.loop-next.table = omega arith in
    closes_more c.args.origins.now c.args.table.now c.loop-next.table c.enter_outside.new.table c.loop-next.next less c.len.ensures.table c.loop-next.invariant c.in_ok-enter_outside.ensures

pub returns : goal.returns
returns c =
    let past : length c.loop-next.table ≤ c.loop-next.next = omega arith in
    closes_all c.args.origins.now c.args.table.now c.loop-next.table c.loop-next.next past c.loop-next.invariant
