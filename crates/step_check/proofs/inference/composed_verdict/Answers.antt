use Rattle.step_check.proofs.InferenceLaws.{composed_verdict, full_here, uncomposed_verdict}
use Rattle.step_check.proofs.ListLimits.{full_listed}
use Rattle.step_check.specs.Notes.{case_given}
use Rattle.step_check.proofs.inference.composed_verdict.Goals as goal

pub compose_image-requires-clause-from : goal.compose_image-requires-clause-from
compose_image-requires-clause-from c =
    full_listed c.representative_of-above.result.now
    (full_here (case_given c.args.given.now) c.args.number c.args.parent c.representative_of-above.result.now c.requires.within c.requires.may
    c.representative_of-above.ensures)

pub returns-in-Some : goal.returns-in-Some
returns-in-Some c =
    composed_verdict (case_given c.args.given.now) c.args.number c.args.parent c.representative_of-above.result.now
    c.own_form_of.result.now c.in_ok-aliens.aliens c.in_ok-targets.targets.rows c.in_ok-found.found c.in-Some.composed
    c.own_form_of.ensures c.in_ok-aliens.ensures c.in_ok-targets.ensures.rows c.requires.may c.representative_of-above.ensures
    c.in_ok-found.ensures.answer c.in-Some.is

pub returns : goal.returns
returns c =
    uncomposed_verdict (case_given c.args.given.now) c.args.number c.args.parent c.representative_of-above.result.now
    c.own_form_of.result.now c.in_ok-aliens.aliens c.in_ok-targets.targets.rows c.in_ok-found.found
    c.own_form_of.ensures c.in_ok-aliens.ensures c.in_ok-targets.ensures.rows c.requires.may c.representative_of-above.ensures
    c.in_ok-found.ensures.answer c.in-None.is
