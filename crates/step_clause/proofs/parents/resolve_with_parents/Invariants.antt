use Rattle.step_clause.specs.Places.{ListResolvesBy}
use Rattle.step_clause.proofs.Loops.{NoneUpTo}
use Rattle.step_clause.proofs.parents.resolve_with_parents.Given as goal

abbrev pub invariant-loop-k : goal.invariant-loop-k
invariant-loop-k l = NoneUpTo (ListResolvesBy l.target l.first) l.parents l.k
