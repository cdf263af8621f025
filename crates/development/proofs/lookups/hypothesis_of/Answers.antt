use Rattle.std.proofs.Common.{ap, unwrap_or, ◌∙◌}
use Rattle.development.proofs.NameLaws.{place_named_is}
use Rattle.plan_typing.specs.Reasons.{name_of_step, place_named}
use Rattle.step_check.specs.Steps.{step_in}
use Rattle.development.proofs.lookups.hypothesis_of.Goals as goal

pub returns : goal.returns
returns c =
    let hyps = c.args.given.now.problem.now.hyps in
    let name = c.name_of_step-name.result.now in
    c.place_in.ensures ∙ ap (λ o. unwrap_or o 0) (c.requires.names name) ∙ place_named_is name hyps
    ∙ ap (place_named hyps) (c.name_of_step-name.ensures ∙ ap (λ l. name_of_step (step_in l c.args.leaf)) c.as_slice.ensures)
