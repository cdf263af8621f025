use Rattle.std.proofs.Common.{◌≡◌, true, false, Bor, sym, ◌∙◌}
use Rattle.ground_instances.specs.Keys.{verdict_in}
use Rattle.plan.proofs.MapAnswers.{composed_no_leaf, form_answer}
use Rattle.plan.specs.Known.{case_given, is_composed_at, judged_given}
use Rattle.plan.specs.declared.maps.StepMap.{StepMap}
use Rattle.plan.proofs.maps.map_to_form.Goals as goal

pub returns-then-is_composed_step : goal.returns-then-is_composed_step
returns-then-is_composed_step c =
    let given = c.args.given.now in
    let composed : is_composed_at (verdict_in given.verdicts.now c.args.number) ≡ true = sym c.is_composed_step.ensures ∙ c.if-is_composed_step.true in
    composed_no_leaf (judged_given given) c.args.number composed

pub returns-else-is_composed_step : goal.returns-else-is_composed_step
returns-else-is_composed_step c =
    let given = c.args.given.now in let right = c.requires.right in
    let apart : is_composed_at (verdict_in given.verdicts.now c.args.number) ≡ false = sym c.is_composed_step.ensures ∙ c.if-is_composed_step.false in
    form_answer (case_given right.0 given) given.verdicts.now right.1 c.map_of_step.result (λ (it : Bor StepMap). it.now) c.args.maps.now c.args.number apart c.requires.known c.map_of_step.ensures
