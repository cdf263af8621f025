use Rattle.std.proofs.Common.{ℕ, List, Contains, sym, subst}
use Rattle.step_check.proofs.Climbs.{opened_on}
use Rattle.step_check.specs.Notes.{case_given}
use Rattle.step_check.specs.Tables.{IsKnown}
use Rattle.step_check.proofs.climbing.prepare.Goals as goal

pub note_each-requires-clause-stand : goal.note_each-requires-clause-stand
note_each-requires-clause-stand c = λ q h. c.requires.sound.parents c.args.number q (subst (λ (l : List ℕ). Contains l q) c.parents_at.ensures h)

pub returns-clause-prepared : goal.returns-clause-prepared
returns-clause-prepared c = record {
  opened = opened_on (case_given c.args.given.now) c.open.new.forms c.note_each.new.notes.forms c.args.number c.in_ok-note_each.ensures.forms c.in_ok-open.ensures.opened;
  images = λ q h. c.in_ok-note_each.ensures.known q (subst (λ (l : List ℕ). Contains l q) (sym c.parents_at.ensures) h);
}
