use Rattle.std.proofs.Common.{◌≡◌, drop}
use Rattle.expansion.specs.Choices.{skolem_term}
use Rattle.expansion.specs.Walks.{universals_of}
use Rattle.expansion.proofs.values.existential_term.Given as goal

abbrev pub invariant-loop-one : goal.invariant-loop-one
invariant-loop-one l =
    skolem_term (universals_of l.source) (drop l.one-index l.source.map.now.entries) l.number ≡ skolem_term (universals_of l.source) l.source.map.now.entries l.number
