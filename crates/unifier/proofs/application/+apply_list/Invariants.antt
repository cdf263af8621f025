use Rattle.std.proofs.Common.{◌≡◌, map, take}
use Rattle.unifier.specs.Substitution.{value}
use Rattle.dk_syntax.specs.Terms.{substituted}
use Rattle.unifier.proofs.application.+apply_list.Given as goal

abbrev pub invariant-apply_list_to_each-loop-term : goal.invariant-apply_list_to_each-loop-term
invariant-apply_list_to_each-loop-term l = l.all ≡ map (substituted (value l.s)) (take l.term-index l.terms)
