use Rattle.std.proofs.Common.{◌≡◌, ◌+◌}
use Rattle.unifier.specs.Substitution.{value}
use Rattle.step_chain.specs.Resolvents.{closed_terms_over}
use Rattle.step_chain.proofs.closing.closed_values.Given as goal

abbrev pub invariant-loop-j : goal.invariant-loop-j
invariant-loop-j l = l.all ≡ closed_terms_over l.variables l.j (λ j. value l.solution.terms (l.from + j))
