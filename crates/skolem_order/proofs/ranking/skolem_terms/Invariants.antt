use Rattle.std.proofs.Common.{◌≡◌, map, take}
use Rattle.std.specs.List.{filter}
use Rattle.skolem_order.specs.Origins.{is_skolem}
use Rattle.skolem_order.specs.Ranks.{ranked}
use Rattle.skolem_order.proofs.ranking.skolem_terms.Given as goal

abbrev pub invariant-loop-number : goal.invariant-loop-number
invariant-loop-number l = l.list.items ≡ map (ranked l.origins) (filter (is_skolem l.origins) (take l.number l.table))
