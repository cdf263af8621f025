use Rattle.std.proofs.Common.{◌≡◌, ◌<◌, ℕ, get_or}
use Rattle.step_check.specs.Notes.{AreNotes, case_given, Grow}
use Rattle.step_check.specs.Tables.{IsKnown}
use Rattle.step_check.proofs.climbing.note_each.Given as goal

abbrev pub invariant-loop-number : goal.invariant-loop-number
invariant-loop-number l = record {
  right : AreNotes (case_given l.given) l.notes;
  grown : Grow l.initial.notes.forms l.notes.forms;
  known : (j q : ℕ) → j < l.number-index → get_or l.numbers j q ≡ q → IsKnown l.notes.images q;
}
