-- The verdict on the first bad step.
use Rattle.std.proofs.Common.{◌≡◌, ◌-◌, ℕ, zero, suc, true, List, None, Some, slice_get, add-one, sym, ap, ◌∙◌, subst, arith}
use Rattle.ground_instances.specs.Keys.{verdict_in}
use Rattle.plan.specs.Plans.{IsBadFault, IsFaultOf}
use Rattle.plan.specs.declared.plan.PlanFault.{PlanFault}
use Rattle.plan.specs.declared.plan.PlanFault.TheVariants.{Cycle, Memory, MissingParent, NoRefutation, Over, OverWeight, OverWide, Wrong}
use Rattle.step_check.proofs.OneRepresentative.{same_some}
use Rattle.step_check.specs.Freshness.{is_bad, IsFirstBad}
use Rattle.step_check.specs.declared.verdict.Verdict.{Verdict}
use Rattle.step_check.specs.declared.verdict.Verdict.TheVariants as verdict

-- the verdict on a step stands at the place before its number
at_step : (list : List Verdict) (step : ℕ) (found : Verdict) → verdict_in list step ≡ Some found → slice_get list (step - 1) ≡ Some found
at_step list zero found h = absurd cc
at_step list (suc place) found h = let e : suc place - 1 ≡ place = omega arith in ap (slice_get list) e ∙ h

module _ (list : List Verdict) (step : ℕ) (first : IsFirstBad list (Some step)) where
  -- there is one, and it is bad
  there : verdict_in list step ≡ Some first.2.0
  there = subst (λ n. verdict_in list n ≡ Some first.2.0) (sym (first.1 ∙ add-one first.0)) first.2.1

  pub not_none : verdict_in list step ≡ None → ⊥
  not_none h = let e : None ≡ Some first.2.0 = sym h ∙ there in absurd cc

  pub bad_there : (found : Verdict) → verdict_in list step ≡ Some found → is_bad found ≡ true
  bad_there found h = subst (λ v. is_bad v ≡ true) (same_some (verdict_in list step) first.2.0 found there h) first.2.2

  pub bad_fault_is : (found : Verdict) → verdict_in list step ≡ Some found → (fault : PlanFault) → IsFaultOf step found fault → IsBadFault list fault
  bad_fault_is found h (MissingParent n name) k = absurd k
  bad_fault_is found h (Cycle n) k = absurd k
  bad_fault_is found h NoRefutation k = absurd k
  bad_fault_is found h (Wrong n reason) (n_is, is) = (
    subst (λ m. IsFirstBad list (Some m)) (sym n_is) first,
    subst (λ m. slice_get list (m - 1) ≡ Some (verdict.Wrong reason)) (sym n_is) (at_step list step (verdict.Wrong reason) (h ∙ ap Some is)),
  )
  bad_fault_is found h (Over n over) (n_is, is) = (
    subst (λ m. IsFirstBad list (Some m)) (sym n_is) first,
    subst (λ m. slice_get list (m - 1) ≡ Some (verdict.Over over)) (sym n_is) (at_step list step (verdict.Over over) (h ∙ ap Some is)),
  )
  bad_fault_is found h (OverWeight weight) k = absurd k
  bad_fault_is found h (OverWide n) k = absurd k
  bad_fault_is found h Memory k = absurd k
