use Rattle.std.proofs.Common.{◌≡◌, take}
use Rattle.ground_instances.proofs.visiting.copies.Given as goal

-- the names so far
abbrev pub invariant-loop-named : goal.invariant-loop-named
invariant-loop-named l = l.copies.items ≡ take l.named-index l.names
