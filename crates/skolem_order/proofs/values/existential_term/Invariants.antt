use Rattle.std.proofs.Common.{◌≡◌, drop}
use Rattle.expansion.specs.Choices.{skolem_term}
use Rattle.skolem_order.specs.Walks.{universals_of}
use Rattle.skolem_order.proofs.values.existential_term.Given as goal

abbrev pub invariant-loop-one : goal.invariant-loop-one
invariant-loop-one l =
    skolem_term (universals_of l.source) (drop l.one-index l.source.origin.now.map.entries) l.number
    ≡ skolem_term (universals_of l.source) l.source.origin.now.map.entries l.number
