use Rattle.std.proofs.Common.{◌≡◌, map, take}
use Rattle.nd_term.specs.Outputs.{ground_of, output}
use Rattle.nd_term.proofs.outputs.+replaced.Given as goal

abbrev pub invariant-replaced_each-loop-term : goal.invariant-replaced_each-loop-term
invariant-replaced_each-loop-term l = map ground_of l.all ≡ map (output l.place.symbols.now l.place.order.now) (take l.term-index l.terms)
