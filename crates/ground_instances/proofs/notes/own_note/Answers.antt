use Rattle.ground_instances.specs.Notes.{judged_given}
use Rattle.ground_instances.proofs.NoteLaws.{own_is_note}
use Rattle.ground_instances.proofs.notes.own_note.Goals as goal

pub returns : goal.returns
returns c =
    own_is_note (judged_given c.args.given.now) c.args.number c.args.sign c.args.is_leaf c.in-Some.step.now c.in_ok-form.form c.requires c.in-Some.ensures c.in_ok-form.ensures
