use Rattle.std.proofs.Common.{◌+◌, ◌++◌, [], ◌∷◌, take, sym, subst}
use Rattle.ground_instances.specs.States.{AreNumbersOf}
use Rattle.ground_instances.proofs.Growth.{take_one_more}
use Rattle.ground_instances.proofs.StepLaws.{numbers_more}
use Rattle.ground_instances.proofs.state.numbers_of.Goals as goal

pub loop-named-preserved : goal.loop-named-preserved
loop-named-preserved c =
    let keys = c.args.names.now.keys in let needs = c.args.needs.now in let i = c.loop-named.named-index in
    subst (AreNumbersOf keys (take (i + 1) needs)) (sym c.in_ok-push.ensures.ok)
    (subst (λ xs. AreNumbersOf keys xs (c.loop-named.numbers ++ c.in_ok-number.number ∷ [])) (sym (take_one_more needs i c.named-item.result c.loop-named-test.true c.named-item.is))
    (numbers_more keys (take i needs) c.loop-named.numbers c.named-item.result c.in_ok-number.number c.loop-named.invariant c.in_ok-number.ensures))
