use Rattle.step_check.specs.Notes.{case_given}
use Rattle.step_check.proofs.judging.judge.Goals as goal

pub judge_noted-requires-clause-right : goal.judge_noted-requires-clause-right
judge_noted-requires-clause-right c = c.blank-notes.ensures (case_given c.given_of-given.result)
