use Rattle.step_check.proofs.NotedForms.{large_noted, within_noted}
use Rattle.step_check.specs.Notes.{case_given}
use Rattle.step_check.specs.Steps.{own_form}
use Rattle.step_check.proofs.limits.is_too_large.Goals as goal

pub returns-clause-large : goal.returns-clause-large
returns-clause-large c =
    large_noted (own_form (case_given c.args.given.now) c.args.number) c.known.result.now c.is_none.result
    (c.requires.right c.args.number c.known.result.now c.known.ensures) c.is_none.ensures

pub returns-clause-within : goal.returns-clause-within
returns-clause-within c =
    within_noted (own_form (case_given c.args.given.now) c.args.number) c.known.result.now c.is_none.result
    (c.requires.right c.args.number c.known.result.now c.known.ensures) c.is_none.ensures
