-- What holds of the definitions.
use Rattle.std.specs.Prelude.{◌≡◌, false, List, []}
use Rattle.normal_form.specs.Existentials.{existential_in}
use Rattle.normal_form.specs.FormFacts.{HasNoVacuous}
use Rattle.normal_form.specs.Forms.{form_of}
use Rattle.normal_form.specs.Sorting.{SameSorted}
use Rattle.normal_form.specs.declared.form.Nf.{Nf}
use Rattle.step_skolem.specs.Carrying.{carried}
use Rattle.step_skolem.specs.Chaining.{chained}
use Rattle.step_skolem.specs.Images.{image_of, IsImage}
use Rattle.step_skolem.specs.declared.map.SkEntry.{SkEntry}

-- a map leads from a form to one form, which is a function of the map
abbrev pub ImageIsOne : Type 0
ImageIsOne = (n n' : Nf) (entries : List SkEntry) → IsImage n entries n' → image_of n entries ≡ n'

-- one map at most leads from a form without a vacuous quantifier to another form
abbrev pub MapIsOne : Type 0
MapIsOne = (n n' : Nf) (one other : List SkEntry) → HasNoVacuous (form_of n) → IsImage n one n' → IsImage n other n' → one ≡ other

-- an image of a form without a vacuous quantifier has none
abbrev pub ImageHasNoVacuous : Type 0
ImageHasNoVacuous = (n n' : Nf) (entries : List SkEntry) → IsImage n entries n' → HasNoVacuous (form_of n) → HasNoVacuous (form_of n')

-- where no existential stands, the one map is the empty one and the image is the form
abbrev pub UnchangedWithoutExistentials : Type 0
UnchangedWithoutExistentials = (n n' : Nf) (entries : List SkEntry) → existential_in n ≡ false → IsImage n entries n' → (entries ≡ []) × (n' ≡ n)

-- the empty map leads from a form to itself
abbrev pub EmptyLeadsBack : Type 0
EmptyLeadsBack = (n : Nf) → IsImage n [] n

-- two maps one after the other are one map, which leads to the image under both
abbrev pub ChainIsImage : Type 0
ChainIsImage = (n n' n'' : Nf) (first next : List SkEntry) → IsImage n first n' → IsImage n' next n'' → IsImage n (chained first next) n''

-- the map leads from the form to one that differs from the image by order and grouping alone
abbrev pub LeadsAlike : Nf → List SkEntry → Nf → Type 0
LeadsAlike r entries image = (other : Nf) × IsImage r entries other × SameSorted image other

-- a map carried to a form with the same sorted form is a map of that form, and leads to a form with the sorted form of the first image
abbrev pub CarriedIsImage : Type 0
CarriedIsImage = (n r image : Nf) (entries : List SkEntry) → SameSorted n r → IsImage n entries image → LeadsAlike r (carried n r entries) image
