-- Only waiters from the index on may lack a place.
use Rattle.std.proofs.Common.{drop}
use Rattle.derivation_graph.specs.Agendas.{Fits}
use Rattle.derivation_graph.proofs.agenda.release.Given as goal

abbrev pub invariant-loop-waiter : goal.invariant-loop-waiter
invariant-loop-waiter l = Fits l.rows l.marks l.agenda.ready l.agenda.waiting.items (drop l.waiter-index l.waiter-items)
