use Rattle.std.proofs.Common.{◌≡◌, map, take}
use Rattle.unifier.specs.Closing.{closing}
use Rattle.dk_syntax.specs.Terms.{substituted}
use Rattle.unifier.proofs.application.+close_term.Given as goal

abbrev pub invariant-close_terms-loop-term : goal.invariant-close_terms-loop-term
invariant-close_terms-loop-term l = l.all ≡ map (substituted (closing l.frozen l.s)) (take l.term-index l.terms)
