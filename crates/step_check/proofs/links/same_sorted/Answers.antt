use Rattle.step_check.proofs.NotedForms.{same_sorts}
use Rattle.step_check.specs.Notes.{case_given}
use Rattle.step_check.specs.Steps.{own_form}
use Rattle.step_check.proofs.links.same_sorted.Goals as goal

pub returns : goal.returns
returns c =
    let both =
    same_sorts (own_form (case_given c.args.given.now) c.args.number) (own_form (case_given c.args.given.now) c.args.other)
    c.known.result.now c.known-2.result.now
    (c.requires.right c.args.number c.known.result.now c.known.ensures) (c.requires.right c.args.other c.known-2.result.now c.known-2.ensures)
    in
    (λ h. both.0 (c.nf_eq.ensures.0 h), λ h. c.nf_eq.ensures.1 (both.1 h))
