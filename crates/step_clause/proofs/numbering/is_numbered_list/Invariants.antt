use Rattle.step_clause.proofs.Loops.{AllTo}
use Rattle.step_clause.specs.Justifications.{IsNumbered}
use Rattle.step_clause.proofs.numbering.is_numbered_list.Given as goal

abbrev pub invariant-loop-row : goal.invariant-loop-row
invariant-loop-row l = AllTo (λ row. IsNumbered row.clause) l.list.rows l.row-index
