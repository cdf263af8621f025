use Rattle.std.proofs.Common.{◌≡◌, ◌++◌, length, map, reverse}
use Rattle.skolem_order.specs.Origins.{value}
use Rattle.skolem_order.specs.Walks.{universals_of}
use Rattle.skolem_order.proofs.values.terms_around.Given as goal

abbrev pub invariant-loop-one : goal.invariant-loop-one
invariant-loop-one l =
    l.terms.items ++ map (value (universals_of l.source) l.source.origin.now.map.entries) (reverse l.around.items)
    ≡ map (value (universals_of l.source) l.source.origin.now.map.entries) (reverse l.initial.around.items)

abbrev pub decreases-loop-one : goal.decreases-loop-one
decreases-loop-one l = length l.around.items
