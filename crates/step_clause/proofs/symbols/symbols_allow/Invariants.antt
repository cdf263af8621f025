use Rattle.step_clause.proofs.Loops.{AllTo}
use Rattle.step_clause.specs.Symbols.{HasRoom}
use Rattle.step_clause.proofs.symbols.symbols_allow.Given as goal

abbrev pub invariant-loop-slot : goal.invariant-loop-slot
invariant-loop-slot l = AllTo (HasRoom l.target.lits l.pivots l.slots) l.slots l.slot-index
