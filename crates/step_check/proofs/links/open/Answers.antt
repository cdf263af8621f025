use Rattle.step_check.proofs.NotedForms.{grown}
use Rattle.step_check.proofs.links.open.Goals as goal

pub returns-clause-grown : goal.returns-clause-grown
returns-clause-grown c =
    grown c.note_link.result c.args.forms.now c.note_link.new.forms c.note_owns.new.owns c.in_ok-note_owns.ensures.kept
    c.note_link.ensures.owns c.note_link.ensures.kept
