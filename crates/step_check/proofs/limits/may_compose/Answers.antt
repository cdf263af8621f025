use Rattle.std.proofs.Common.{◌≡◌, true, length, eqb-true, ap, sym, ◌∙◌}
use Rattle.step_check.proofs.FittedParents.{may_compose_one, not_both}
use Rattle.step_check.specs.Notes.{case_given}
use Rattle.step_check.proofs.limits.may_compose.Goals.{then-is_skolem_step, else-is_skolem_step}
use Rattle.step_check.proofs.limits.may_compose.Goals as goal

pub returns-then-parents_at-eq1 : goal.returns-then-parents_at-eq1
returns-then-parents_at-eq1 c = elim c.if-is_skolem_step.branch [
  | then-is_skolem_step w ↦
      may_compose_one (case_given c.args.given.now) c.args.number c.exists_in.result
      (c.is_skolem_step.ensures.0 w.if-is_skolem_step.true)
      (ap length (sym w.parents_at.ensures) ∙ eqb-true (length w.parents_at.result.now) 1 (sym w.value-is ∙ c.if-parents_at-eq1.true))
      c.exists_in.ensures
  | else-is_skolem_step w ↦
      let here : c.is_skolem_step.result ≡ true = sym w.value-is ∙ c.if-parents_at-eq1.true in absurd (not_both c.is_skolem_step.result here w.if-is_skolem_step.false)
]
