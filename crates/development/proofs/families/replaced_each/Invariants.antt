use Rattle.std.proofs.Common.{◌≡◌, map, take}
use Rattle.nd_term.specs.Outputs.{ground_of, output}
use Rattle.development.proofs.families.replaced_each.Given as goal

abbrev pub invariant-loop-term : goal.invariant-loop-term
invariant-loop-term l = map ground_of l.all ≡ map (output l.place.symbols.now l.place.order.now) (take l.term-index l.terms)
