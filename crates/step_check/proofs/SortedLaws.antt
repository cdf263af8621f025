-- Each representative has the sorted form of the step's own form, so a structural step's image of it is there.
use Rattle.std.proofs.Common.{ℕ, List, refl, ◌∙◌, subst}
use Rattle.normal_form.specs.Sorting.{SameSorted}
use Rattle.normal_form.specs.declared.form.Nf.{Nf}
use Rattle.step_check.proofs.OwnForms.{two_images}
use Rattle.step_check.specs.Laws.{RepresentativeIsSorted}
use Rattle.step_check.specs.Representatives.{leaf, over, over_full, Represents, same, shapeless, skolem, unfit}
use Rattle.step_check.specs.Steps.{Case, own_form}
use Rattle.step_skolem.proofs.Carried.{carried_is_image}
use Rattle.step_skolem.specs.Carrying.{carried}
use Rattle.step_skolem.specs.Images.{IsImage}
use Rattle.step_skolem.specs.declared.map.SkEntry.{SkEntry}

pub representative_is_sorted : RepresentativeIsSorted
representative_is_sorted case i _ (over _ limit h) = refl
representative_is_sorted case i _ (over_full _ q r limit w may rep h) = refl
representative_is_sorted case i _ (leaf _ name h) = refl
representative_is_sorted case i _ (unfit _ cth esa h k) = refl
representative_is_sorted case i _ (shapeless _ cth esa h k) = refl
representative_is_sorted case i _ (same _ q r cth esa w full d fit one is rep) = is ∙ representative_is_sorted case q r rep
representative_is_sorted case i _ (skolem _ q r s cth entries w full d fit one is rep leads) =
    let x = carried_is_image (own_form case q) r (own_form case i) entries (representative_is_sorted case q r rep) is.1 in
    subst (λ t. SameSorted (own_form case i) t) (two_images r x.0 s (carried (own_form case q) r entries) x.1 leads) x.2
