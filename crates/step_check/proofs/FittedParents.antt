-- Steps and the one parent that they fit.
use Rattle.std.proofs.Common.{◌≡◌, ◌↔◌, ℕ, Bool, true, false, not, List, [], ◌∷◌, length, Some, IsTrue, refl, sym, ◌∙◌, subst, arith}
use Rattle.std.specs.Bool.{beq}
use Rattle.normal_form.specs.Existentials.{existential_in}
use Rattle.normal_form.specs.FormFacts.{HasNoVacuous}
use Rattle.normal_form.specs.Forms.{form_of}
use Rattle.normal_form.specs.declared.form.Nf.{Nf}
use Rattle.step_check.proofs.OneRepresentative.{derived_one, parent_one}
use Rattle.step_check.proofs.OwnForms.{own_has_no_vacuous}
use Rattle.step_check.specs.Notes.{IsApart, MayComposeOne, SaysSkolem}
use Rattle.step_check.specs.Representatives.{HasOneParent, IsSame}
use Rattle.step_check.specs.Steps.{Case, own_form, parents_of, step_in}
use Rattle.step_skolem.specs.Images.{HasNoImage}
use Rattle.tstp_trace.specs.declared.step.Step.{Step}
use Rattle.tstp_trace.specs.declared.step.StepSource.TheVariants.{Derived}

pub equal_flags : (a b : Bool) → not (beq a b) ≡ false → a ≡ b
equal_flags true true h = refl
equal_flags true false h = cc
equal_flags false true h = cc
equal_flags false false h = refl

pub not_both : (b : Bool) → b ≡ true → b ≡ false → ⊥
not_both b h k = cc

one_item : (l : List ℕ) → length l ≡ 1 → (q : ℕ) × (l ≡ q ∷ [])
one_item [] h = absurd (omega (arith, h))
one_item (q ∷ []) h = (q, refl)
one_item (q ∷ p ∷ l) h = absurd (omega (arith, h))

not_true : (b : Bool) → IsTrue (not b) → b ≡ false
not_true true h = cc
not_true false h = refl

module _ (case : Case) (i : ℕ) where
  pub says_skolem : (step : Step) (cth esa : Bool) (names : List (List ℕ)) → step_in case.steps i ≡ Some step → step.source ≡ Derived cth esa names
      → IsTrue esa ↔ SaysSkolem case i
  says_skolem step cth esa names at is = (
    λ h. (cth, (step, names, at, subst (λ x. step.source ≡ Derived cth x names) h is)),
    λ says. (derived_one case i cth esa says.0 true (step, names, at, is) says.1).1,
  )

  pub may_compose_one : (exists : Bool) → SaysSkolem case i → length (parents_of case i) ≡ 1 → exists ≡ existential_in (own_form case i)
      → IsTrue (not exists) ↔ MayComposeOne case i
  may_compose_one exists says long e =
      let q = one_item (parents_of case i) long in (
        λ h. (q.0, record { cth = says.0; skolem = says.1; one = q.1; plain = sym e ∙ not_true exists h }),
        λ may. subst (λ b. IsTrue (not b)) (sym (e ∙ may.1.plain)) refl,
      )

  pub no_image : (q : ℕ) (from to : Nf) → from ≡ own_form case q → to ≡ own_form case i → (HasNoVacuous (form_of from) → HasNoImage from to)
      → HasNoImage (own_form case q) (own_form case i)
  no_image q from to e k h =
      subst (λ x. HasNoImage (own_form case q) x) k
      (subst (λ x. HasNoImage x to) e (h (subst (λ x. HasNoVacuous (form_of x)) (sym e) (own_has_no_vacuous case q))))

  pub apart_from : (parent : ℕ) → HasOneParent case i parent → (IsSame case i parent → ⊥) → HasNoImage (own_form case parent) (own_form case i) → IsApart case i
  apart_from parent only other none q esa fitted p one =
      let e : parent ≡ p = parent_one case i parent p only one in
      (subst (λ x. IsSame case i x → ⊥) e other, λ flag. subst (λ x. HasNoImage (own_form case x) (own_form case i)) e none)
