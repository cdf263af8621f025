use Rattle.derivation_graph.proofs.AgendaLaws.{fits_placed}
use Rattle.derivation_graph.proofs.agenda.release.Goals as goal

pub loop-waiter-preserved : goal.loop-waiter-preserved
loop-waiter-preserved c =
    let e = c.in_ok-place.ensures in
    fits_placed c.args.rows.now c.args.marks.now c.loop-waiter.agenda.ready c.place.new.agenda.ready c.loop-waiter.agenda.waiting.items c.place.new.agenda.waiting.items c.as_slice-waiter-items.result.now c.loop-waiter.waiter-index
    c.loop-waiter-test.true c.loop-waiter.invariant e.long e.placed e.kept e.ready
