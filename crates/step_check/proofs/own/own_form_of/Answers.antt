use Rattle.step_check.proofs.NotedForms.{form_noted, none_noted}
use Rattle.step_check.specs.Notes.{case_given}
use Rattle.step_check.specs.Steps.{own_form}
use Rattle.step_check.proofs.own.own_form_of.Goals as goal

pub unreachable-requires : goal.unreachable-requires
unreachable-requires c =
    none_noted (own_form (case_given c.args.given.now) c.args.number) c.known.result.now
    (c.requires.right c.args.number c.known.result.now c.known.ensures) c.requires.within c.in-None.is

pub returns : goal.returns
returns c =
    form_noted (own_form (case_given c.args.given.now) c.args.number) c.known.result.now c.in-Some.form
    (c.requires.right c.args.number c.known.result.now c.known.ensures) c.in-Some.is
