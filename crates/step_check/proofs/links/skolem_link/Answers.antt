use Rattle.std.proofs.lemmas.Option.{MatchOption-at_none}
use Rattle.step_check.proofs.FittedParents.{apart_from, no_image}
use Rattle.step_check.specs.Notes.{case_given}
use Rattle.step_check.proofs.links.skolem_link.Goals as goal

pub returns-in-None : goal.returns-in-None
returns-in-None c = λ within.
    apart_from (case_given c.args.given.now) c.args.number c.args.parent c.requires.fitted.one c.requires.other
    (no_image (case_given c.args.given.now) c.args.number c.args.parent c.own_form_of-from.result.now c.own_form_of-to.result.now
    c.own_form_of-from.ensures c.own_form_of-to.ensures (MatchOption-at_none _ _ c.in-None.is c.in_ok-found.ensures))
