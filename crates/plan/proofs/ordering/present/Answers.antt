use Rattle.std.proofs.Common.{◌++◌, ◌∙◌, option_to_list, ap, sym}
use Rattle.plan.proofs.TreeLists.{there_next}
use Rattle.plan.proofs.ordering.present.Goals as goal

pub loop-thin-preserved : goal.loop-thin-preserved
loop-thin-preserved c =
    let thin = c.thin-item.result in
    c.in_ok-put.ensures ∙ ap (λ trees. trees ++ option_to_list thin) c.loop-thin.invariant
    ∙ sym (there_next c.args.thins.now c.loop-thin.thin-index thin c.loop-thin-test.true c.thin-item.is)
