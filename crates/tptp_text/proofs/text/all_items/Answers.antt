use Rattle.std.proofs.Common.{◌≡◌, ◌+◌, ◌-◌, ◌<◌, false, length, eqb, arith}
use Rattle.std.proofs.lemmas.Grind.{common_steps}
use Rattle.tptp_text.proofs.TextSteps.{goes_on}
use Rattle.tptp_text.proofs.text.all_items.Goals as goal

pub loop-count-preserved : goal.loop-count-preserved
loop-count-preserved c =
    let here = c.behind_matter-here.result in
    let some : 0 < length here = grind (arith, common_steps) in
    let few : eqb c.loop-count.count 65536 ≡ false = grind (arith, common_steps) in
    let at : c.saturating_sub-at.result ≡ length c.args.bytes.now - length here = grind (arith, common_steps) in
    rw c.in_ok-push.ensures.ok (goes_on (length c.args.bytes.now) (length c.args.bytes.now + 1) c.loop-count.count c.loop-count.start c.loop-count.rest here c.loop-count.items c.in_ok-item.item c.in_ok-item.after _
    c.loop-count-test.true c.behind_matter-here.ensures.skipped some few (rw (← at) c.in_ok-item.ensures) c.loop-count.invariant)
