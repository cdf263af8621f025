-- What is noted of steps while instances are made. Only private contracts cite this.
use Rattle.std.specs.Prelude.{◌≡◌, ℕ, Bool, true, false, nat_eq, [], ◌∷◌, Some}
use Rattle.std.specs.HashMap.{get, HashMap}
use Rattle.std.specs.declared.hash.BuildHasherDefault.{BuildHasherDefault}
use Rattle.std.specs.declared.hash.FoldHasher.{FoldHasher}
use Rattle.normal_form.specs.ClauseLists.{clause_rows}
use Rattle.normal_form.specs.declared.clause_list.ClauseList.{ClauseList}
use Rattle.normal_form.specs.declared.form.Nf.{Nf}
use Rattle.step_check.specs.declared.verdict.Verdict.{Verdict}
use Rattle.step_check.specs.declared.verdict.Verdict.TheVariants.{Structural}
use Rattle.step_skolem.specs.Images.{IsImage}
use Rattle.step_skolem.specs.declared.map.SkMap.{SkMap}
use Rattle.ground_instances.specs.Keys.{Has, IsBase, IsLeafBase, IsLeafVerdict, IsOwnBase, Judged, parents_at, sign_of, Stands}
use Rattle.ground_instances.specs.declared.given.Given.{Given}
use Rattle.ground_instances.specs.declared.needing.Found.{Found}
use Rattle.ground_instances.specs.declared.notes.Note.{Note}

-- what is given as one value
abbrev pub judged_given : Given → Judged
judged_given given = record { steps = given.steps.now; rows = given.rows.now; verdicts = given.verdicts.now }

-- the map of each structural step leads from the form that represents its parent to one form
abbrev pub HasImages : Judged → Type 0
HasImages judged =
    (i q : ℕ) (r : Nf) (map_here : SkMap) → Has judged i (Structural map_here) → parents_at judged i ≡ q ∷ [] → Stands judged q r
    → (s : Nf) × IsImage r map_here.entries s × ((other : Nf) → IsImage r map_here.entries other → other ≡ s)

-- the form represents the step, and the base is the step's
pub record IsNote (judged : Judged) (i : ℕ) (note : Note) : Type 0 where
  pub form : Stands judged i note.form
  pub base : IsBase judged i note.base
  pub leaf : note.is_leaf ≡ true → IsLeafBase judged i
  pub other : note.is_leaf ≡ false → IsLeafBase judged i → ⊥

-- the list is that of the form that represents the step
abbrev pub IsListOf : Judged → ℕ → ClauseList → Type 0
IsListOf judged i list = (r : Nf) × Stands judged i r × (list.rows ≡ clause_rows r)

-- what is known by the numbers of steps
abbrev pub Known : Type 0 → Type 0
Known X = HashMap ℕ X (BuildHasherDefault FoldHasher)

-- what is known of each step has the property
abbrev pub AreRight : {X : Type 0} → (ℕ → X → Type 0) → Known X → Type 0
AreRight {X} Is known = (i : ℕ) (x : X) → get nat_eq known i ≡ Some x → Is i x

-- the step isn't structural: its verdict has that sign, and is or isn't a leaf's
pub record HasOwn (judged : Judged) (i : ℕ) (sign is_leaf : Bool) : Type 0 where
  pub verdict : Verdict
  pub here : Has judged i verdict
  pub base : IsOwnBase verdict
  pub signed : sign_of verdict ≡ sign
  pub leaf : is_leaf ≡ true → IsLeafVerdict verdict
  pub other : is_leaf ≡ false → IsLeafVerdict verdict → ⊥

-- what is found of steps is right
pub record AreFound (judged : Judged) (found : Found) : Type 0 where
  pub notes : AreRight (IsNote judged) found.notes
  pub lists : AreRight (IsListOf judged) found.lists
