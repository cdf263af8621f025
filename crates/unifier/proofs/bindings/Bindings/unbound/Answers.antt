use Rattle.std.proofs.Common.{subst, sym}
use Rattle.unifier.proofs.BoundLaws.{unbound_refined, unbound_sound}
use Rattle.unifier.specs.Outcomes.{Sound}
use Rattle.unifier.specs.Substitution.{Refines}
use Rattle.unifier.proofs.bindings.Bindings.unbound.Goals as goal

pub returns-clause-sound : goal.returns-clause-sound
returns-clause-sound c = λ frozen. subst (Sound frozen) (sym c.loop-k.invariant) (unbound_sound frozen c.loop-k._k)

pub returns-clause-refined : goal.returns-clause-refined
returns-clause-refined c = λ r. subst (λ s. Refines s r) (sym c.loop-k.invariant) (unbound_refined c.loop-k._k r)
