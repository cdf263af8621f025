-- Own forms have no vacuous quantifier, so one map at most leads from a parent's form to a step's.
use Rattle.std.proofs.Common.{◌≡◌, ℕ, Bool, true, false, not, List, Option, Some, None, refl, sym, ap, ◌∙◌, subst, rules}
use Rattle.normal_form.proofs.FormLaws.{form-True}
use Rattle.normal_form.proofs.NormalFacts.{none_is_vacuous}
use Rattle.normal_form.specs.FormFacts.{HasNoVacuous}
use Rattle.normal_form.specs.Forms.{form_of}
use Rattle.normal_form.specs.declared.form.Nf.{Nf}
use Rattle.normal_form.specs.declared.form.Nf.TheVariants as nf
use Rattle.dk_syntax.specs.declared.Problem.{Problem}
use Rattle.step_check.specs.Steps.{Case, form_of_step, is_conjecture_leaf, own_form, step_in}
use Rattle.step_skolem.proofs.OneImage.{image_is_one}
use Rattle.step_skolem.proofs.OneMap.{map_is_one}
use Rattle.step_skolem.specs.Images.{IsImage}
use Rattle.step_skolem.specs.declared.map.SkEntry.{SkEntry}
use Rattle.tstp_trace.specs.declared.step.Step.{Step}

step_has_no_vacuous : (problem : Problem) (step : Option Step) → HasNoVacuous (form_of (form_of_step problem step))
step_has_no_vacuous problem None = subst HasNoVacuous (sym form-True) tt
step_has_no_vacuous problem (Some step) = none_is_vacuous step.formula (not (is_conjecture_leaf problem step.source))

pub own_has_no_vacuous : (case : Case) (i : ℕ) → HasNoVacuous (form_of (own_form case i))
own_has_no_vacuous case i = step_has_no_vacuous case.problem (step_in case.steps i)

pub one_map : (case : Case) (i q : ℕ) (one other : List SkEntry) → IsImage (own_form case q) one (own_form case i) → IsImage (own_form case q) other (own_form case i) → one ≡ other
one_map case i q one other h k = map_is_one (own_form case q) (own_form case i) one other (own_has_no_vacuous case q) h k

pub two_images : (n r s : Nf) (entries : List SkEntry) → IsImage n entries r → IsImage n entries s → r ≡ s
two_images n r s entries h k = sym (image_is_one n r entries h) ∙ image_is_one n s entries k
