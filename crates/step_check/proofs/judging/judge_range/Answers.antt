use Rattle.std.proofs.Common.{◌≡◌, ◌+◌, ℕ, suc, List, [], ◌∷◌, length, slice_get, Some, sym, ap, ◌∙◌, subst, arith, length-append}
use Rattle.step_check.proofs.ClausalLaws.{verdicts_more}
use Rattle.step_check.specs.Freshness.{HaveVerdicts}
use Rattle.step_check.specs.Notes.{case_given}
use Rattle.step_check.specs.Verdicts.{HasVerdict}
use Rattle.step_check.specs.declared.verdict.Verdict.{Verdict}
use Rattle.step_check.proofs.judging.judge_range.Goals as goal

nothing : (case_holds : ℕ → Verdict → Type 0) (before place : ℕ) (list : List Verdict) (verdict : Verdict) → list ≡ [] → slice_get list place ≡ Some verdict → case_holds (before + suc place) verdict
nothing holds before place list verdict e h = cc

pub loop-place-init : goal.loop-place-init
loop-place-init c = record {
  right = c.blank-notes.ensures (case_given c.args.given.now);
  each = λ place verdict h. nothing (HasVerdict (case_given c.args.given.now)) c.args.before place c.new-verdicts.result verdict c.new-verdicts.ensures h;
  long = let e = ap length c.new-verdicts.ensures in omega arith;
}

pub loop-place-preserved : goal.loop-place-preserved
loop-place-preserved c =
    let case = case_given c.args.given.now in let verdicts = c.loop-place.verdicts in let verdict = c.in_ok-verdict.verdict in
    let long = c.loop-place.invariant.long in
    let number : c.loop-place.place + 1 ≡ c.args.before + suc (length verdicts) = omega arith in
    let is : HasVerdict case (c.args.before + suc (length verdicts)) verdict = subst (λ n. HasVerdict case n verdict) number c.in_ok-verdict.ensures.verdict in
    let pushed = c.in_ok-push.ensures.ok in
    let more = ap length pushed ∙ length-append verdicts (verdict ∷ []) in record {
      right = c.in_ok-verdict.ensures.right;
      each = subst (HaveVerdicts case c.args.before) (sym pushed) (verdicts_more case c.args.before verdicts verdict c.loop-place.invariant.each is);
      long = omega arith;
    }
