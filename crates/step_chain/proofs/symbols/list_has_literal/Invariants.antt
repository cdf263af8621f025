use Rattle.step_clause.specs.Symbols.{AnyOf}
use Rattle.step_chain.proofs.Loops.{NoneTo}
use Rattle.step_chain.specs.Symbols.{IsOf}
use Rattle.step_chain.proofs.symbols.list_has_literal.Given as goal

abbrev pub invariant-loop-row : goal.invariant-loop-row
invariant-loop-row l = NoneTo (λ row. AnyOf (IsOf l.sign l.pred) row.clause.lits) l.list.rows l.row-index
