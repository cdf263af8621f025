-- The representative of each step: its own normal form, or for a structural step the image of its parent's.
use Rattle.std.specs.Prelude.{◌≡◌, ℕ, Bool, true, false, List, [], ◌∷◌, Option, Some, None, MatchOption}
use Rattle.normal_form.specs.Existentials.{existential_in}
use Rattle.normal_form.specs.Sorting.{SameSorted}
use Rattle.normal_form.specs.declared.form.Nf.{Nf}
use Rattle.step_check.specs.Limits.{full_limit, limit_at, nodes_limit}
use Rattle.step_check.specs.Steps.{Case, has_conjecture_parent, own_form, parents_of, step_in}
use Rattle.step_check.specs.declared.verdict.Limit.{Limit}
use Rattle.step_check.specs.declared.verdict.Limit.TheVariants.{NormalForm}
use Rattle.step_skolem.specs.Carrying.{carried}
use Rattle.step_skolem.specs.Images.{HasNoImage, IsImage}
use Rattle.step_skolem.specs.declared.map.SkEntry.{SkEntry}
use Rattle.tstp_trace.specs.declared.step.Step.{Step}
use Rattle.tstp_trace.specs.declared.step.StepSource.TheVariants.{Leaf, Derived}

module _ (case : Case) where
  -- The step is a leaf of that name.
  abbrev pub IsLeaf : ℕ → List ℕ → Type 0
  IsLeaf i name = (step : Step) × (step_in case.steps i ≡ Some step) × (step.source ≡ Leaf name)

  -- The step comes from other steps, with these two flags: that it negates, and that it is a Skolem step.
  abbrev pub IsDerived : ℕ → Bool → Bool → Type 0
  IsDerived i cth esa = (step : Step) × (names : List (List ℕ)) × (step_in case.steps i ≡ Some step) × (step.source ≡ Derived cth esa names)

  -- The step says that it negates exactly where a parent is a leaf that names the conjecture.
  abbrev pub IsFit : ℕ → Bool → Type 0
  IsFit i cth = has_conjecture_parent case i ≡ cth

  -- The step has this one parent.
  abbrev pub HasOneParent : ℕ → ℕ → Type 0
  HasOneParent i q = parents_of case i ≡ q ∷ []

  -- A composed image is in question: the step is a Skolem step with one parent, and its own form has no existential.
  pub record MayCompose (i q : ℕ) : Type 0 where
    pub cth : Bool
    pub skolem : IsDerived i cth true
    pub one : HasOneParent i q
    pub plain : existential_in (own_form case i) ≡ false

  -- Both own forms are the same up to order and grouping.
  abbrev pub IsSame : ℕ → ℕ → Type 0
  IsSame i q = SameSorted (own_form case i) (own_form case q)

  -- They are not, and the map leads from the parent's form to the step's.
  abbrev pub IsSkolem : ℕ → ℕ → List SkEntry → Type 0
  IsSkolem i q entries = (IsSame i q → ⊥) × IsImage (own_form case q) entries (own_form case i)

  -- The step, a Skolem step or not, has the shape of no structural step.
  abbrev pub HasNoShape : ℕ → Bool → Type 0
  HasNoShape i esa = (q : ℕ) → HasOneParent i q → (IsSame i q → ⊥) × (esa ≡ true → HasNoImage (own_form case q) (own_form case i))

  -- Neither the step's own form nor a parent's passes a limit.
  abbrev pub IsWithin : ℕ → Type 0
  IsWithin i = limit_at case i ≡ None

  -- Nor does the full image of the parent's representative, where it is in question.
  abbrev pub IsFullWithin : ℕ → ℕ → Nf → Type 0
  IsFullWithin i q r = MayCompose i q → full_limit r ≡ None

  -- The form represents the step. It is the own form of a step that is over a limit, a leaf, unfit for its parent, or
  -- without the shape of a structural step. A structural step has its parent's, or the image of it under the map carried to it.
  pub data Represents : ℕ → Nf → Type 0 where
    over : (i : ℕ) (limit : Limit) → limit_at case i ≡ Some limit → Represents i (own_form case i)
    over_full : (i q : ℕ) (r : Nf) (limit : Limit) → IsWithin i → MayCompose i q → Represents q r → full_limit r ≡ Some limit → Represents i (own_form case i)
    leaf : (i : ℕ) (name : List ℕ) → IsLeaf i name → Represents i (own_form case i)
    unfit : (i : ℕ) (cth esa : Bool) → IsDerived i cth esa → (IsFit i cth → ⊥) → Represents i (own_form case i)
    shapeless : (i : ℕ) (cth esa : Bool) → IsDerived i cth esa → HasNoShape i esa → Represents i (own_form case i)
    same : (i q : ℕ) (r : Nf) (cth esa : Bool) → IsWithin i → IsFullWithin i q r → IsDerived i cth esa → IsFit i cth → HasOneParent i q
        → IsSame i q → Represents q r → Represents i r
    skolem : (i q : ℕ) (r s : Nf) (cth : Bool) (entries : List SkEntry) → IsWithin i → IsFullWithin i q r → IsDerived i cth true → IsFit i cth → HasOneParent i q
        → IsSkolem i q entries → Represents q r → IsImage r (carried (own_form case q) r entries) s → Represents i s

  -- The representative of the step, or none where the step's own form has more nodes than the limit.
  abbrev pub IsFormAnswer : ℕ → Option Nf → Type 0
  IsFormAnswer i answer =
      MatchOption answer (nodes_limit (own_form case i) ≡ Some NormalForm) (λ r. (nodes_limit (own_form case i) ≡ None) × Represents i r)
