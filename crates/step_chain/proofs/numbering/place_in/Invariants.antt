use Rattle.step_chain.proofs.Places.{NotBefore}
use Rattle.step_chain.proofs.numbering.place_in.Given as goal

abbrev pub invariant-loop-k : goal.invariant-loop-k
invariant-loop-k l = NotBefore l.numbers l.k l.n
