use Rattle.std.proofs.Common.{◌≡◌, map, take}
use Rattle.expansion.specs.Choices.{skolem_term}
use Rattle.skolem_order.specs.Walks.{universals_of}
use Rattle.skolem_order.proofs.closing.outer_terms.Given as goal

abbrev pub invariant-loop-number : goal.invariant-loop-number
invariant-loop-number l =
    l.terms ≡ map (skolem_term (universals_of l.source) l.source.origin.now.map.entries) (take l.number-index l.number-items)
