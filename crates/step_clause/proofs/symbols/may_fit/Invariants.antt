use Rattle.step_clause.proofs.Loops.{AllTo}
use Rattle.step_clause.specs.Symbols.{MayBePicked}
use Rattle.step_clause.proofs.symbols.may_fit.Given as goal

abbrev pub invariant-loop-slot : goal.invariant-loop-slot
invariant-loop-slot l = AllTo (MayBePicked l.target.lits l.pivots.first) l.slots l.slot-index
