-- The steps from the last one back are done.
use Rattle.std.specs.Prelude.{◌≡◌, ◌-◌}
use Rattle.step_check.proofs.FreshLaws.{fresh_after}
use Rattle.step_check.proofs.freshness.fresh.Given as goal

abbrev pub invariant-loop-done : goal.invariant-loop-done
invariant-loop-done l = l.list.list ≡ fresh_after (l.count - l.done) l.symbols l.fn.list.list
