use Rattle.step_check.proofs.NotedForms.{exists_noted}
use Rattle.step_check.specs.Notes.{case_given}
use Rattle.step_check.specs.Steps.{own_form}
use Rattle.step_check.proofs.limits.exists_in.Goals as goal

pub returns : goal.returns
returns c =
    exists_noted (own_form (case_given c.args.given.now) c.args.number) c.known.result.now
    (c.requires.right c.args.number c.known.result.now c.known.ensures) c.requires.within
