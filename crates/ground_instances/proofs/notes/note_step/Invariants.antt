use Rattle.std.proofs.Common.{vec_len}
use Rattle.ground_instances.specs.Notes.{AreRight, IsNote, judged_given}
use Rattle.ground_instances.proofs.notes.note_step.Given as goal

abbrev pub invariant-loop-step : goal.invariant-loop-step
invariant-loop-step l = AreRight (IsNote (judged_given l.given)) l.notes

abbrev pub decreases-loop-step : goal.decreases-loop-step
decreases-loop-step l = vec_len l.way
