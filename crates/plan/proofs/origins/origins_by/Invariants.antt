use Rattle.std.proofs.Common.{map, take}
use Rattle.plan.specs.Known.{AreOriginsBy}
use Rattle.plan.proofs.origins.origins_by.Given as goal

-- the origins of the entries so far
abbrev pub invariant-loop-one : goal.invariant-loop-one
invariant-loop-one l = AreOriginsBy l.leaf l.it (map (λ one. one.symbol) (take l.one-index l.own)) l.here.items
