use Rattle.step_clause.specs.Places.{ClauseResolvesBy}
use Rattle.step_clause.proofs.Loops.{NoneUpTo}
use Rattle.step_clause.proofs.parents.resolve_list.Given as goal

abbrev pub invariant-loop-k : goal.invariant-loop-k
invariant-loop-k l = NoneUpTo (λ row. ClauseResolvesBy l.target l.parents row.clause) l.list.rows l.k
