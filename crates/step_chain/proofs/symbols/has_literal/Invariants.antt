use Rattle.step_chain.proofs.Loops.{NoneTo}
use Rattle.step_chain.specs.Symbols.{IsOf}
use Rattle.step_chain.proofs.symbols.has_literal.Given as goal

abbrev pub invariant-loop-literal : goal.invariant-loop-literal
invariant-loop-literal l = NoneTo (IsOf l.sign l.pred) l.literals l.literal-index
