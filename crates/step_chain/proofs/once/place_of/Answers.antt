use Rattle.step_chain.proofs.Loops.{not_contained}
use Rattle.step_chain.proofs.once.place_of.Goals as goal

pub returns : goal.returns
returns c = not_contained c.args.literal.now c.args.literals.now c.loop-k.k c.loop-k-test.false c.loop-k.invariant
