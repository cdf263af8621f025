use Rattle.std.proofs.Common.{true}
use Rattle.step_chain.proofs.Loops.{not_contained}
use Rattle.step_chain.proofs.once.any_taken.Goals as goal

pub returns : goal.returns
returns c = not_contained true c.args.taken.now c.loop-k.k c.loop-k-test.false c.loop-k.invariant
