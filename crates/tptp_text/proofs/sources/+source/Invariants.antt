use Rattle.std.proofs.Common.{◌≡◌, ◌-◌, ◌+◌, ◌*◌, true, length}
use Rattle.tptp_text.specs.Reading.{source_at, parents_at}
use Rattle.tptp_text.proofs.Layers.{with_front}
use Rattle.tptp_text.proofs.sources.+source.Given as goal

abbrev pub decreases-source_of : goal.decreases-source_of
decreases-source_of l = 9 * l.room

abbrev pub decreases-parent_of : goal.decreases-parent_of
decreases-parent_of l = 9 * l.room + 1

abbrev pub decreases-parents_of : goal.decreases-parents_of
decreases-parents_of l = 9 * l.room + 2

abbrev pub decreases-parent_list : goal.decreases-parent_list
decreases-parent_list l = 9 * l.room + 3

abbrev pub decreases-derived_of : goal.decreases-derived_of
decreases-derived_of l = 9 * l.room + 4

abbrev pub decreases-inference_of : goal.decreases-inference_of
decreases-inference_of l = 9 * l.room + 5

abbrev pub decreases-call_of : goal.decreases-call_of
decreases-call_of l = 9 * l.room + 6

abbrev pub decreases-form_of : goal.decreases-form_of
decreases-form_of l = 9 * l.room + 7

abbrev pub invariant-parents_of-loop : goal.invariant-parents_of-loop
invariant-parents_of-loop l = with_front l.parents (parents_at (length l.tokens - l.counter) (source_at l.room true) l.rest) ≡ parents_at (length l.tokens) (source_at l.room true) l.tokens
