use Rattle.std.proofs.Common.{◌≡◌, ◌+◌}
use Rattle.unifier.specs.Substitution.{value}
use Rattle.step_clause.specs.Justifications.{closed_terms}
use Rattle.step_clause.proofs.values.closed_values.Given as goal

abbrev pub invariant-loop-j : goal.invariant-loop-j
invariant-loop-j l = l.all ≡ closed_terms l.frozen l.j (λ j. value l.solution.terms (l.from + j))
