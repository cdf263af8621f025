use Rattle.step_clause.specs.Places.{ListSubsumesBy}
use Rattle.step_clause.proofs.Loops.{NoneUpTo}
use Rattle.step_clause.proofs.parents.least_subsumption.Given as goal

abbrev pub invariant-loop-k : goal.invariant-loop-k
invariant-loop-k l = NoneUpTo (ListSubsumesBy l.target) l.parents l.k
