-- Each turn visits a step that was pending, and what it adds wasn't marked.
use Rattle.std.proofs.Common.{◌+◌, not, count_by, length}
use Rattle.derivation_graph.specs.Reach.{Reaches}
use Rattle.derivation_graph.proofs.cycles.is_on_cycle.Given as goal

abbrev pub invariant-loop-next : goal.invariant-loop-next
invariant-loop-next l = Reaches l.rows l.step l.seen.items l.pending.items

abbrev pub decreases-loop-next : goal.decreases-loop-next
decreases-loop-next l = count_by not l.seen.items + length l.pending.items
