use Rattle.std.proofs.Common.{true}
use Rattle.step_chain.proofs.Loops.{NotYet}
use Rattle.step_chain.proofs.once.any_taken.Given as goal

abbrev pub invariant-loop-k : goal.invariant-loop-k
invariant-loop-k l = NotYet true l.taken l.k
