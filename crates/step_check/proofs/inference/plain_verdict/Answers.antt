use Rattle.std.proofs.Common.{Some, ap, slice_get, sym, ◌∙◌}
use Rattle.step_check.specs.Verdicts as is
use Rattle.step_check.proofs.inference.plain_verdict.Goals as goal

pub returns-then-has_existential : goal.returns-then-has_existential
returns-then-has_existential c = is.has_exists (sym c.if-has_existential.ensures)

pub returns-in-Some : goal.returns-in-Some
returns-in-Some c =
    is.alien c.in_ok-copy-in-Some.field-0 (sym c.if-has_existential.ensures)
    (ap (λ l. slice_get l 0) (sym (c.as_slice.ensures ∙ c.in_ok-aliens.ensures)) ∙ (sym c.in-Some.ensures.value ∙ ap Some (sym c.in_ok-copy-in-Some.ensures)))
