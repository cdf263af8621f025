use Rattle.std.proofs.Common.{◌<◌, false, length, get_or, refl, arith}
use Rattle.std.proofs.lemmas.Option.{slice_get-get_or, slice_get_read}
use Rattle.step_chain.proofs.OnceLaws.{adds_next, adds_start}
use Rattle.step_chain.proofs.once.add_once.Goals as goal

pub loop-k-init : goal.loop-k-init
loop-k-init c = adds_start c.args.once.now

pub loop-k-preserved : goal.loop-k-preserved
loop-k-preserved c =
    let less : c.loop-k.k < length c.args.taken.now = omega arith in
    adds_next c.args.once.now c.loop-k.once _ c.args.literals.now c.args.taken.now c.loop-k.k c.index-literals-k.result (get_or c.args.taken.now c.loop-k.k false)
    (slice_get_read c.args.literals.now (length c.args.literals.now) c.loop-k.k c.index-literals-k.result refl c.loop-k-test.true c.index-literals-k.is)
    (slice_get-get_or c.args.taken.now c.loop-k.k false less)
    c.loop-k.invariant c.in_ok-add_kept.ensures
