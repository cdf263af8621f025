use Rattle.step_clause.proofs.Loops.{AllTo}
use Rattle.dk_syntax.specs.Terms.{EachBelow}
use Rattle.step_clause.proofs.numbering.is_numbered.Given as goal

abbrev pub invariant-loop-literal : goal.invariant-loop-literal
invariant-loop-literal l = AllTo (λ literal. EachBelow l.clause.vars literal.args) l.clause.lits l.literal-index
