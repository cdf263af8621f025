-- No entry before the index has the symbol.
use Rattle.std.specs.Prelude.{◌≡◌, drop}
use Rattle.step_check.specs.Steps.{stands_in}
use Rattle.step_check.proofs.FreshLaws.{names}
use Rattle.step_check.proofs.freshness.has_entry.Given as goal

abbrev pub invariant-loop-entry : goal.invariant-loop-entry
invariant-loop-entry l = stands_in (names l.fn.entries) l.fn.symbol ≡ stands_in (names (drop l.entry-index l.fn.entries)) l.fn.symbol
