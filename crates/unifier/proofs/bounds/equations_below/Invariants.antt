use Rattle.unifier.proofs.BelowLaws.{PairsTo}
use Rattle.unifier.proofs.bounds.equations_below.Given as goal

abbrev pub invariant-loop-equation : goal.invariant-loop-equation
invariant-loop-equation l = PairsTo l.n l.equations.pairs l.equation-index
