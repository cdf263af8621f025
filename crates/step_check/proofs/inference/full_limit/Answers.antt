use Rattle.std.proofs.Common.{MatchOption, Option, sym, subst}
use Rattle.step_check.proofs.InferenceLaws.{full_answer}
use Rattle.step_check.proofs.VerdictLaws.{within_unasked}
use Rattle.step_check.specs.Notes.{case_given}
use Rattle.step_check.specs.Verdicts.{HasVerdict, IsWithinAll}
use Rattle.step_check.specs.declared.verdict.Limit.{Limit}
use Rattle.step_check.specs.declared.verdict.Verdict.TheVariants.{Over}
use Rattle.step_check.proofs.inference.full_limit.Goals as goal

pub returns-in_err-parent : goal.returns-in_err-parent
returns-in_err-parent c =
    let case = case_given c.args.given.now in
    subst (λ (x : Option Limit). MatchOption x (IsWithinAll case c.args.number) (λ limit. HasVerdict case c.args.number (Over limit)))
    (sym c.from_residual.ensures) (within_unasked case c.args.number c.requires.within c.in_err-parent.ensures)

pub returns : goal.returns
returns c =
    full_answer (case_given c.args.given.now) c.args.number c.in_ok-parent.parent c.representative_of-above.result.now c.full_limit_of.result
    c.requires.within c.in_ok-parent.ensures c.representative_of-above.ensures c.full_limit_of.ensures
