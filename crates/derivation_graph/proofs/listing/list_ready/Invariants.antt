-- The turns so far. Each one marks a step.
use Rattle.std.proofs.Common.{[], not, count_by}
use Rattle.derivation_graph.specs.Agendas.{AreTurns, Fits}
use Rattle.derivation_graph.proofs.listing.list_ready.Given as goal

abbrev pub invariant-loop-list : goal.invariant-loop-list
invariant-loop-list l = record {
  turns : AreTurns l.rows l.marks.items l.list.items;
  fits : Fits l.rows l.marks.items l.agenda.ready l.agenda.waiting.items [];
}

abbrev pub decreases-loop-list : goal.decreases-loop-list
decreases-loop-list l = count_by not l.marks.items
