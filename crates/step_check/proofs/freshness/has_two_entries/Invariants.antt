-- No entry before the place has the symbol.
use Rattle.std.specs.Prelude.{◌≡◌, drop}
use Rattle.step_check.specs.Freshness.{stands_twice}
use Rattle.step_check.proofs.FreshLaws.{names}
use Rattle.step_check.proofs.freshness.has_two_entries.Given as goal

abbrev pub invariant-loop-place : goal.invariant-loop-place
invariant-loop-place l = stands_twice (names l.fn.entries) l.fn.symbol ≡ stands_twice (names (drop l.place l.fn.entries)) l.fn.symbol
