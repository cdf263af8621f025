use Rattle.std.proofs.Common.{Bor}
use Rattle.plan.proofs.MapAnswers.{above_answer, parent_has}
use Rattle.plan.specs.Known.{judged_given}
use Rattle.plan.specs.declared.maps.StepMap.{StepMap}
use Rattle.plan.proofs.maps.map_above.Goals as goal

pub map_to_form-requires-clause-known : goal.map_to_form-requires-clause-known
map_to_form-requires-clause-known c =
    c.requires.parents c.in-Some.parent (parent_has (judged_given c.args.given.now) c.args.number c.in-Some.parent c.in-Some.ensures)

pub returns-in-None : goal.returns-in-None
returns-in-None c = λ q one. absurd (c.in-None.ensures q one)

pub returns-in-Some : goal.returns-in-Some
returns-in-Some c =
    above_answer (judged_given c.args.given.now) c.map_to_form.result (λ (it : Bor StepMap). it.now) c.args.number c.in-Some.parent c.in-Some.ensures c.map_to_form.ensures
