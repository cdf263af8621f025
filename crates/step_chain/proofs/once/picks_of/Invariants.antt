use Rattle.std.proofs.Common.{take}
use Rattle.step_chain.specs.Resolving.{AreInstancePicks}
use Rattle.step_chain.proofs.once.picks_of.Given as goal

abbrev pub invariant-loop-k : goal.invariant-loop-k
invariant-loop-k l = AreInstancePicks l.lits (take l.k l.literals) (take l.k l.taken) l.picks
