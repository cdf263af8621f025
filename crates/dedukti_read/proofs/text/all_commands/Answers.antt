use Rattle.std.proofs.Common.{◌≡◌, ◌+◌, ◌-◌, ◌<◌, length, arith}
use Rattle.std.proofs.lemmas.Grind.{common_steps}
use Rattle.dedukti_read.proofs.TextSteps.{goes_on}
use Rattle.dedukti_read.proofs.text.all_commands.Goals as goal

pub loop-preserved : goal.loop-preserved
loop-preserved c =
    let here = c.skip_matter-here.result.now in
    let some : 0 < length here = grind (arith, common_steps) in
    let at : c.saturating_sub-at.result ≡ length c.args.bytes.now - length here = grind (arith, common_steps) in
    rw c.in_ok-push.ensures.ok (goes_on (length c.args.bytes.now) (length c.args.bytes.now + 1) c.loop.counter c.loop.rest.now here c.loop.commands c.in_ok-command.command c.in_ok-command.after.now _
    c.loop-test.true c.skip_matter-here.ensures some (rw (← at) c.in_ok-command.ensures) c.loop.invariant)
