use Rattle.step_chain.proofs.Loops.{NotYet}
use Rattle.step_chain.proofs.once.place_of.Given as goal

abbrev pub invariant-loop-k : goal.invariant-loop-k
invariant-loop-k l = NotYet l.literal l.literals l.k
