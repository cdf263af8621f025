-- The least number of the ready set is the least ready step, and where there is none no step is left but those that wait.
use Rattle.derivation_graph.proofs.AgendaLaws.{fits_after, stuck_without_ready, turns_after}
use Rattle.derivation_graph.proofs.agenda.list_next.Goals as goal

pub returns-in_default-clause-stuck : goal.returns-in_default-clause-stuck
returns-in_default-clause-stuck c =
    stuck_without_ready c.args.rows.now c.args.marks.now.items c.args.list.now.items c.args.agenda.now.ready c.args.agenda.now.waiting.items c.requires.turns c.requires.fits c.in_default.ensures.least

pub release-requires-clause-fits : goal.release-requires-clause-fits
release-requires-clause-fits c =
    let fits = fits_after c.args.rows.now c.args.marks.now.items c.args.list.now.items c.args.agenda.now.ready c.take_least.new.set c.args.agenda.now.waiting.items c.in-Some.step c.requires.turns c.requires.fits c.in-Some.ensures.least.0 c.in-Some.ensures.others c.in-Some.ensures.kept in
    rw c.as_slice.ensures.value fits

pub returns-clause-turns : goal.returns-clause-turns
returns-clause-turns c =
    turns_after c.args.rows.now c.args.marks.now.items c.args.list.now.items c.push.new.self.items c.args.agenda.now.ready c.args.agenda.now.waiting.items c.in-Some.step c.requires.turns c.requires.fits c.in-Some.ensures.least.0 c.in-Some.ensures.least.1 c.in_ok-push.ensures.items
