use Rattle.std.proofs.Common.{◌≡◌, drop}
use Rattle.plan.specs.Known.{first_named}
use Rattle.plan.proofs.origins.first_entry.Given as goal

-- the first is still ahead
abbrev pub invariant-loop-one : goal.invariant-loop-one
invariant-loop-one l = first_named (drop l.one-index l.entries) l.symbol ≡ first_named l.entries l.symbol
