-- Verdicts on steps that come from other steps, case by case.
use Rattle.std.proofs.Common.{◌≡◌, ◌⊎◌, inl, inr, ℕ, Bool, true, false, List, [], ◌∷◌, Option, Some, None, refl, sym, ap, ◌∙◌, subst}
use Rattle.normal_form.specs.declared.form.Nf.{Nf}
use Rattle.step_check.proofs.OneRepresentative.{derived_one, parent_one}
use Rattle.step_check.specs.Limits.{full_limit}
use Rattle.step_check.specs.Notes.{IsApart, IsCarriedVerdict, IsFitted, IsLink, IsMisfit, IsSameLink, IsSkolemLink}
use Rattle.step_check.specs.Representatives.{HasNoShape, HasOneParent, IsDerived, IsFit, IsWithin, MayCompose, Represents}
use Rattle.step_check.specs.Steps.{Case, has_conjecture_parent, own_form}
use Rattle.step_check.specs.Verdicts.{HasVerdict, IsInferenceVerdict, IsOtherVerdict, IsWithinAll, map_of}
use Rattle.step_check.specs.Verdicts as is
use Rattle.step_check.specs.declared.verdict.Limit.{Limit}
use Rattle.step_check.specs.declared.verdict.Reason.{Reason}
use Rattle.step_check.specs.declared.verdict.Reason.TheVariants.{ConjectureParent, NotConjecture}
use Rattle.step_check.specs.declared.verdict.Verdict.{Verdict}
use Rattle.step_check.specs.declared.verdict.Verdict.TheVariants.{Over, Structural, Wrong}
use Rattle.step_skolem.specs.Carrying.{carried}
use Rattle.step_skolem.specs.declared.map.SkEntry.{SkEntry}

module _ (case : Case) (i : ℕ) where
  pub misfit_verdict : (cth esa : Bool) (reason : Reason) → IsWithinAll case i → IsDerived case i cth esa → IsMisfit case i cth reason → HasVerdict case i (Wrong reason)
  misfit_verdict cth esa reason all derived (inl h) =
      is.of_inference i cth esa (Wrong reason) all derived
      (subst (λ (x : Reason). IsInferenceVerdict case i cth esa (Wrong x)) (sym h.2) (is.conjecture_parent h.1 h.0))
  misfit_verdict cth esa reason all derived (inr h) =
      is.of_inference i cth esa (Wrong reason) all derived
      (subst (λ (x : Reason). IsInferenceVerdict case i cth esa (Wrong x)) (sym h.2) (is.not_conjecture h.1 h.0))

  pub same_verdict : (q : ℕ) (cth esa : Bool) → IsSameLink case i q → IsFit case i cth → IsInferenceVerdict case i cth esa (Structural (map_of []))
  same_verdict q cth esa link fit = is.same q fit link.fitted.one link.same

  pub carried_verdict : (q : ℕ) (cth esa : Bool) (entries : List SkEntry) (verdict : Verdict) → IsSkolemLink case i q entries → IsDerived case i cth esa → IsFit case i cth
      → IsCarriedVerdict case q entries verdict → IsInferenceVerdict case i cth esa verdict
  carried_verdict q cth esa entries verdict link derived fit (r, rep, e) =
      let flag : esa ≡ true = (derived_one case i cth esa link.fitted.cth true derived link.fitted.derived).1 in
      subst (λ (x : Verdict). IsInferenceVerdict case i cth esa x) (sym e) (is.skolem q r entries fit link.fitted.one flag link.map rep)

  pub apart_shape : (cth esa : Bool) → (IsWithin case i → IsApart case i) → IsWithin case i → IsDerived case i cth esa → IsFit case i cth → HasNoShape case i esa
  apart_shape cth esa apart within derived fit q one = apart within q esa (record { cth = cth; derived = derived; fit = fit; one = one }) q one

  pub over_verdict : (q : ℕ) (r : Nf) (limit : Limit) → IsWithin case i → MayCompose case i q → Represents case q r → full_limit r ≡ Some limit → HasVerdict case i (Over limit)
  over_verdict q r limit within may rep h = is.over_full i q r limit within may rep h

  pub within_all : (q : ℕ) (r : Nf) → IsWithin case i → MayCompose case i q → Represents case q r → full_limit r ≡ None → IsWithinAll case i
  within_all q r within may rep h = record {
    within = within;
    full = λ p may'. (r, subst (λ x. Represents case x r) (parent_one case i q p may.one may'.one) rep, h);
  }

  pub within_unasked : IsWithin case i → ((q : ℕ) → MayCompose case i q → ⊥) → IsWithinAll case i
  within_unasked within none = record { within = within; full = λ q may. absurd (none q may) }

  -- what is known of a full image in question
  pub full_of : (q : ℕ) → IsWithinAll case i → MayCompose case i q → (r : Nf) × Represents case q r × (full_limit r ≡ None)
  full_of q all may = all.full q may
