use Rattle.std.proofs.Common.{◌≡◌, length}
use Rattle.unifier.proofs.BoundLaws.{unbound}
use Rattle.unifier.proofs.SolutionLaws.{SolvesTo}
use Rattle.unifier.specs.Outcomes.{Extended, Sound}
use Rattle.unifier.proofs.solution.solve.Given as goal

abbrev pub invariant-loop-equation : goal.invariant-loop-equation
invariant-loop-equation l =
    (length l.bindings.terms ≡ l.vars)
    × Sound l.frozen l.bindings.terms
    × Extended l.frozen (λ r. SolvesTo r l.equations.pairs l.equation-index) (unbound l.vars) l.bindings.terms
