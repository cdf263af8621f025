use Rattle.ground_instances.specs.Notes.{IsNote, judged_given}
use Rattle.ground_instances.proofs.NoteLaws.{right_more}
use Rattle.ground_instances.proofs.notes.note_step.Goals as goal

pub loop-step-preserved-in_ok-insert : goal.loop-step-preserved-in_ok-insert
loop-step-preserved-in_ok-insert c =
    right_more (IsNote (judged_given c.args.given.now)) c.loop-step.notes c.insert.new.self c.in-Some.step c.in_ok-note.note c.loop-step.invariant c.in_ok-note.ensures
    c.in_ok-insert.ensures.updates.0

pub loop-step-preserved : goal.loop-step-preserved
loop-step-preserved c =
    right_more (IsNote (judged_given c.args.given.now)) c.loop-step.notes c.insert.new.self c.in-Some.step c.in_ok-note.note c.loop-step.invariant c.in_ok-note.ensures
    c.in_ok-insert.ensures.updates.0
