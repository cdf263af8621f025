use Rattle.std.proofs.Common.{sym}
use Rattle.ground_instances.specs.Notes.{judged_given}
use Rattle.ground_instances.proofs.NoteLaws.{image_is_note}
use Rattle.ground_instances.proofs.notes.image_note.Goals as goal

pub returns : goal.returns
returns c =
    let judged = judged_given c.args.given.now in
    let above = c.in-Some-get.above.now in
    image_is_note judged c.args.number c.in-Some.parent c.args.map.now c.requires.here c.in-Some.ensures above c.in_ok-form.form c.requires.images
    (c.requires.right c.in-Some.parent above (sym c.in-Some-get.ensures.value)) c.in_ok-form.ensures
