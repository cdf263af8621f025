use Rattle.step_chain.proofs.Loops.{NoneTo}
use Rattle.step_chain.specs.Symbols.{HasOne}
use Rattle.step_chain.proofs.symbols.lists_have_literal.Given as goal

abbrev pub invariant-loop-list : goal.invariant-loop-list
invariant-loop-list l = NoneTo (HasOne l.sign l.pred) l.lists l.list-index
