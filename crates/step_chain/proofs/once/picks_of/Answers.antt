use Rattle.std.proofs.Common.{◌<◌, ◌+◌, take, false, length, get_or, refl, sym, subst, arith}
use Rattle.std.proofs.lemmas.Option.{slice_get-get_or, slice_get_read}
use Rattle.step_chain.proofs.OnceLaws.{picks_more}
use Rattle.step_chain.specs.Resolving.{AreInstancePicks}
use Rattle.step_chain.proofs.once.picks_of.Goals as goal

pub loop-k-preserved : goal.loop-k-preserved
loop-k-preserved c =
    let less : c.loop-k.k < length c.args.taken.now = omega arith in
    subst (AreInstancePicks c.args.lits.now (take (c.loop-k.k + 1) c.args.literals.now) (take (c.loop-k.k + 1) c.args.taken.now)) (sym c.in_ok-push.ensures.ok)
    (picks_more c.args.lits.now c.args.literals.now c.args.taken.now c.loop-k.picks c.loop-k.k c.index-literals-k.result (get_or c.args.taken.now c.loop-k.k false) c.in_ok-pick.pick
    (slice_get_read c.args.literals.now (length c.args.literals.now) c.loop-k.k c.index-literals-k.result refl c.loop-k-test.true c.index-literals-k.is)
    (slice_get-get_or c.args.taken.now c.loop-k.k false less)
    c.requires.there c.in_ok-pick.ensures.taken c.in_ok-pick.ensures.kept c.loop-k.invariant)
