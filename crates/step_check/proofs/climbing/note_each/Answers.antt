use Rattle.std.proofs.Common.{ℕ}
use Rattle.step_check.proofs.Climbs.{grow_on, item_contained, known_next}
use Rattle.step_check.specs.Tables.{IsKnown}
use Rattle.step_check.proofs.climbing.note_each.Goals as goal

pub note_image-requires-clause-stands : goal.note_image-requires-clause-stands
note_image-requires-clause-stands c = c.requires.stand _ (item_contained c.args.numbers.now c.loop-number.number-index c.loop-number-test.true)

pub loop-number-preserved : goal.loop-number-preserved
loop-number-preserved c =
    let e = c.in_ok-note_image.ensures in record {
      right = e.right;
      grown = grow_on c.args.notes.now.forms c.loop-number.notes.forms c.note_image.new.notes.forms c.loop-number.invariant.grown e.forms;
      known = known_next (IsKnown c.note_image.new.notes.images) c.args.numbers.now c.loop-number.number-index c.loop-number-test.true e.known
          (λ j q less is. e.images q (c.loop-number.invariant.known j q less is));
    }
