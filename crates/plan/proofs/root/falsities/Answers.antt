use Rattle.std.proofs.Common.{◌+◌, sym, subst, take}
use Rattle.plan.proofs.RootMarks.{AreMarks, formulas_of, marks_more}
use Rattle.plan.proofs.root.falsities.Goals as goal

pub loop-step-preserved : goal.loop-step-preserved
loop-step-preserved c =
    let steps = c.args.steps.now in
    let n = c.loop-step.step-index in
    subst (AreMarks (formulas_of (take (n + 1) steps))) (sym c.in_ok-push.ensures.ok)
    (marks_more steps n c.step-item.result c.loop-step.marks c.is_falsity.result c.loop-step-test.true c.step-item.is c.is_falsity.ensures c.loop-step.invariant)
