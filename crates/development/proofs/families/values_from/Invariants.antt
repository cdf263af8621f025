use Rattle.std.proofs.Common.{◌≡◌, map, take}
use Rattle.nd_term.specs.Outputs.{ground_of}
use Rattle.nd_term.specs.Spots.{value_of}
use Rattle.development.proofs.families.values_from.Given as goal

abbrev pub invariant-loop-term : goal.invariant-loop-term
invariant-loop-term l = map value_of l.all.items ≡ map ground_of (take l.term-index l.terms)
