use Rattle.std.proofs.Common.{◌≡◌, map, take}
use Rattle.unifier.specs.Substitution.{value}
use Rattle.step_chain.specs.Resolving.{slot_instance}
use Rattle.step_chain.proofs.resolvent.instances.Given as goal

abbrev pub invariant-loop-slot : goal.invariant-loop-slot
invariant-loop-slot l = l.all ≡ map (slot_instance (value l.solution.terms)) (take l.slot-index l.slots)
