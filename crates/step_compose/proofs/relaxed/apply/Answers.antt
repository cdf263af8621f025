use Rattle.std.proofs.Common.{rules}
use Rattle.step_compose.proofs.RelaxedTerms.{variables_step}
use Rattle.step_compose.proofs.relaxed.apply.Goals as goal

pub loop-back-preserved : goal.loop-back-preserved
loop-back-preserved c =
    variables_step c.args.from c.args.count c.loop-back.back c.in_ok-number.number c.loop-back.args c.push.new.self _ c.loop-back-test.true
    (search rules) (search rules) c.loop-back.invariant
