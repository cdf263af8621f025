use Rattle.std.proofs.Common.{◌≡◌, drop}
use Rattle.skolem_order.specs.Origins.{origin_for}
use Rattle.skolem_order.proofs.origins.origin_for.Given as goal

abbrev pub invariant-loop-origin : goal.invariant-loop-origin
invariant-loop-origin l = origin_for (drop l.origin-index l.origins) l.symbol ≡ origin_for l.origins l.symbol
