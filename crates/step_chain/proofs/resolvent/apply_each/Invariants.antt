use Rattle.std.proofs.Common.{◌≡◌, map, take}
use Rattle.dk_syntax.specs.Terms.{substituted}
use Rattle.unifier.specs.Substitution.{value}
use Rattle.step_chain.proofs.resolvent.apply_each.Given as goal

abbrev pub invariant-loop-term : goal.invariant-loop-term
invariant-loop-term l = l.all ≡ map (substituted (value l.solution.terms)) (take l.term-index l.terms)
