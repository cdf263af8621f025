use Rattle.step_clause.specs.Places.{SubsumesBy}
use Rattle.step_clause.proofs.Loops.{NoneUpTo}
use Rattle.step_clause.proofs.parents.subsume_by_list.Given as goal

abbrev pub invariant-loop-k : goal.invariant-loop-k
invariant-loop-k l = NoneUpTo (λ row. SubsumesBy l.target row.clause) l.list.rows l.k
