-- The verdicts so far.
use Rattle.std.proofs.Common.{◌≡◌, ◌+◌, length}
use Rattle.step_check.specs.Freshness.{HaveVerdicts}
use Rattle.step_check.specs.Notes.{AreNotes, case_given}
use Rattle.step_check.proofs.judging.judge_range.Given as goal

abbrev pub invariant-loop-place : goal.invariant-loop-place
invariant-loop-place l = record {
  right : AreNotes (case_given l.given) l.notes;
  each : HaveVerdicts (case_given l.given) l.before l.verdicts;
  long : l.before + length l.verdicts ≡ l.place;
}
