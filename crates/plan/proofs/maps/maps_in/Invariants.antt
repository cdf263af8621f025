-- The maps of the steps that were taken so far are known.
use Rattle.std.proofs.Common.{◌≡◌, length, take}
use Rattle.plan.specs.Known.{AreKnown, judged_given}
use Rattle.plan.proofs.maps.maps_in.Given as goal

abbrev pub invariant-loop-number : goal.invariant-loop-number
invariant-loop-number l = record {
  long : length l.maps.items ≡ length l.given.steps.now;
  known : AreKnown (judged_given l.given) (take l.number-index l.list) l.maps.items;
}
