use Rattle.std.proofs.Common.{◌≡◌, ◌<◌, ℕ, get_or}
use Rattle.step_check.specs.Notes.{case_given, IsOwn}
use Rattle.step_check.specs.Tables.{AreRight, IsKnown, Keeps}
use Rattle.step_check.proofs.own.note_each.Given as goal

abbrev pub invariant-loop-number : goal.invariant-loop-number
invariant-loop-number l = record {
  right : AreRight (IsOwn (case_given l.given)) l.owns;
  kept : Keeps l.initial.owns l.owns;
  known : (j q : ℕ) → j < l.number-index → get_or l.numbers j q ≡ q → IsKnown l.owns q;
}
