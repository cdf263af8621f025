use Rattle.step_clause.specs.Places.{ResolvesBy}
use Rattle.step_clause.proofs.Loops.{NoneUpTo}
use Rattle.step_clause.proofs.parents.resolve_with_list.Given as goal

abbrev pub invariant-loop-k : goal.invariant-loop-k
invariant-loop-k l = NoneUpTo (λ row. ResolvesBy l.target l.first row.clause) l.list.rows l.k
