use Rattle.std.proofs.lemmas.Result.{IfOk-weaker}
use Rattle.lp_exact.proofs.PlaceLaws.{lifted_placed}
use Rattle.lp_exact.proofs.normal.put_for_one.Goals as goal

pub returns-then-number-place-2 : goal.returns-then-number-place-2
returns-then-number-place-2 c =
    IfOk-weaker c.lift.result _ _ (lifted_placed c.args.by.now c.args.number c.args.place c.if-number-place-2.true) c.lift.ensures
