use Rattle.step_clause.proofs.Loops.{NoneTo}
use Rattle.step_clause.specs.Symbols.{SameSymbol}
use Rattle.step_clause.proofs.symbols.has_mate.Given as goal

abbrev pub invariant-loop-literal : goal.invariant-loop-literal
invariant-loop-literal l = NoneTo (SameSymbol l.c) l.target.lits l.literal-index
