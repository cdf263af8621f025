-- The parents before the index are marked.
use Rattle.std.proofs.Common.{take}
use Rattle.derivation_graph.specs.Reach.{Spreads}
use Rattle.derivation_graph.proofs.cycles.visit.Given as goal

abbrev pub invariant-loop-parent : goal.invariant-loop-parent
invariant-loop-parent l = Spreads (take l.parent-index l.parent-items) l.fn.seen.items l.seen.items l.fn.pending.items l.pending.items
