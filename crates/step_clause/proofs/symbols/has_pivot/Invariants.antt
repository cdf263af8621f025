use Rattle.step_clause.proofs.Loops.{NoneTo}
use Rattle.step_clause.specs.Symbols.{MayBePivotOf}
use Rattle.step_clause.proofs.symbols.has_pivot.Given as goal

abbrev pub invariant-loop-slot : goal.invariant-loop-slot
invariant-loop-slot l = NoneTo (MayBePivotOf l.positive l.pivots.first) l.slots l.slot-index
