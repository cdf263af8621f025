use Rattle.std.proofs.Common.{◌≡◌, ◌-◌, ◌+◌, true, length}
use Rattle.tptp_text.specs.ReadingItems.{items_at}
use Rattle.tptp_text.proofs.TextSteps.{with_items}
use Rattle.tptp_text.proofs.text.all_items.Given as goal

abbrev pub invariant-loop-count : goal.invariant-loop-count
invariant-loop-count l = with_items l.items (items_at (length l.bytes) (length l.bytes + 1 - l.count) l.count l.start l.rest) ≡ items_at (length l.bytes) (length l.bytes + 1) 0 true l.bytes
