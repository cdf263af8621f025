use Rattle.dk_syntax.proofs.BelowLaws.{BelowTo}
use Rattle.unifier.proofs.bounds.+term_below.Given as goal

abbrev pub invariant-terms_below-loop-term : goal.invariant-terms_below-loop-term
invariant-terms_below-loop-term l = BelowTo l.n l.terms l.term-index
