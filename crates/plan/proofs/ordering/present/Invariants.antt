use Rattle.std.proofs.Common.{◌≡◌, filter_map, take}
use Rattle.plan.proofs.ordering.present.Given as goal

-- the thin trees so far
abbrev pub invariant-loop-thin : goal.invariant-loop-thin
invariant-loop-thin l = l.trees ≡ filter_map (λ y. y) (take l.thin-index l.thins)
