use Rattle.std.proofs.Common.{◌∙◌, sym, arith}
use Rattle.step_check.proofs.BadLaws.{first_here, none_at_all, none_here}
use Rattle.step_check.proofs.bad_steps.first_bad_of.Goals as goal

pub returns-then-is_bad_verdict : goal.returns-then-is_bad_verdict
returns-then-is_bad_verdict c =
    first_here c.args.verdicts.now c.loop-place.place c.index-verdicts-place.result c.loop-place-test.true c.index-verdicts-place.is c.loop-place.invariant (sym c.is_bad_verdict.ensures ∙ c.if-is_bad_verdict.true)

pub loop-place-preserved : goal.loop-place-preserved
loop-place-preserved c =
    none_here c.args.verdicts.now c.loop-place.place c.index-verdicts-place.result c.loop-place-test.true c.index-verdicts-place.is c.loop-place.invariant (sym c.is_bad_verdict.ensures ∙ c.if-is_bad_verdict.false)

pub returns : goal.returns
returns c = none_at_all c.args.verdicts.now c.loop-place.place (omega arith) c.loop-place.invariant
