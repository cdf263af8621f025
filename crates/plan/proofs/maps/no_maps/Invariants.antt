use Rattle.std.proofs.Common.{◌≡◌, length}
use Rattle.plan.proofs.maps.no_maps.Given as goal

abbrev pub invariant-loop : goal.invariant-loop
invariant-loop l = length l.maps.items ≡ l.counter
