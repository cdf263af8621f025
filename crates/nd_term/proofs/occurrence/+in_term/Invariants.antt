use Rattle.std.proofs.Common.{◌≡◌, map, drop}
use Rattle.dk_syntax.specs.Lists.{any_true}
use Rattle.nd_term.specs.Reading.{occurs_term}
use Rattle.nd_term.specs.Views.{theory_term}
use Rattle.nd_term.proofs.occurrence.+in_term.Given as goal

abbrev pub invariant-in_terms-loop-term : goal.invariant-in_terms-loop-term
invariant-in_terms-loop-term l =
    any_true (map (λ t. occurs_term l.k (theory_term t)) (drop l.term-index l.terms)) ≡ any_true (map (λ t. occurs_term l.k (theory_term t)) l.terms)
