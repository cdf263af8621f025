use Rattle.step_check.specs.Notes.{case_given}
use Rattle.step_check.proofs.judging.form.Goals as goal

pub form_noted-requires-clause-right : goal.form_noted-requires-clause-right
form_noted-requires-clause-right c = c.blank-notes.ensures (case_given c.given_of-given.result)
