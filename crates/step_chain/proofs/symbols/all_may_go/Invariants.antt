use Rattle.step_chain.proofs.Loops.{AllTo}
use Rattle.step_chain.specs.Symbols.{HasPartner}
use Rattle.step_chain.proofs.symbols.all_may_go.Given as goal

abbrev pub invariant-loop-literal : goal.invariant-loop-literal
invariant-loop-literal l = AllTo (HasPartner l.target l.rest) l.literals l.literal-index
