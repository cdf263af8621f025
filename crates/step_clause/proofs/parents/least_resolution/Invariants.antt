use Rattle.step_clause.specs.Places.{ParentResolvesBy}
use Rattle.step_clause.proofs.Loops.{NoneUpTo}
use Rattle.step_clause.proofs.parents.least_resolution.Given as goal

abbrev pub invariant-loop-k : goal.invariant-loop-k
invariant-loop-k l = NoneUpTo (ParentResolvesBy l.target l.parents) l.parents l.k
