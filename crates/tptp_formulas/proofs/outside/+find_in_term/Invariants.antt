use Rattle.std.proofs.Common.{◌≡◌, drop, map}
use Rattle.tptp_formulas.specs.Outside.{first_some, outside_term}
use Rattle.tptp_formulas.proofs.outside.+find_in_term.Given as goal

-- nothing is outside in the passed places
abbrev pub invariant-find_in_terms-loop-term : goal.invariant-find_in_terms-loop-term
invariant-find_in_terms-loop-term l = first_some (map outside_term (drop l.term-index l.terms)) ≡ first_some (map outside_term l.terms)
