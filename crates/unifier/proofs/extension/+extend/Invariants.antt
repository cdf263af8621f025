use Rattle.std.proofs.Common.{◌≡◌, ◌+◌, ◌*◌, length}
use denote.Param.Weighed.{most}
use Rattle.dk_syntax.specs.declared.term.Term.{size-Term}
use Rattle.dk_syntax.proofs.SubstitutionLaws.{SameTo}
use Rattle.unifier.specs.Outcomes.{Extended, Sound}
use Rattle.unifier.proofs.extension.+extend.Given as goal

abbrev pub decreases-extend : goal.decreases-extend
decreases-extend l = 2 * size-Term l.a.now

abbrev pub decreases-extend_terms : goal.decreases-extend_terms
decreases-extend_terms l = 2 * most size-Term l.xs.now + 1

abbrev pub invariant-extend_terms-loop-i : goal.invariant-extend_terms-loop-i
invariant-extend_terms-loop-i l =
    (length l.bindings.terms ≡ length l.initial.bindings.terms)
    × Sound l.frozen l.bindings.terms
    × Extended l.frozen (λ r. SameTo r l.xs l.ys l.i) l.initial.bindings.terms l.bindings.terms
