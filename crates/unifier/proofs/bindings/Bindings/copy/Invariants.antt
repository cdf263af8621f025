use Rattle.std.proofs.Common.{◌≡◌, take}
use Rattle.unifier.proofs.bindings.Bindings.copy.Given as goal

abbrev pub invariant-loop-entry : goal.invariant-loop-entry
invariant-loop-entry l = l.terms ≡ take l.entry-index l.self.terms
