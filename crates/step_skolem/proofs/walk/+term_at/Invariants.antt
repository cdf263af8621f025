use Rattle.std.proofs.Common.{◌≡◌, map, take}
use Rattle.dk_syntax.specs.Terms.{substituted}
use Rattle.step_skolem.specs.Levels.{values_of}
use Rattle.step_skolem.proofs.walk.+term_at.Given as goal

abbrev pub invariant-terms_at-loop-term : goal.invariant-terms_at-loop-term
invariant-terms_at-loop-term l = l.there ≡ map (substituted (values_of l.walk)) (take l.term-index l.terms)
