use Rattle.std.proofs.Common.{◌≡◌, map, take}
use Rattle.skolem_order.specs.Walks.{universals_of}
use Rattle.skolem_order.proofs.values.entry_term.Given as goal

abbrev pub invariant-loop-number : goal.invariant-loop-number
invariant-loop-number l = l.args ≡ map (universals_of l.source) (take l.number-index l.one.args)
