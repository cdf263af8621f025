-- What is known of steps while a piece is judged. Only private contracts cite this.
use Rattle.std.specs.Prelude.{◌≡◌, ◌<◌, ◌≤◌, ◌⊎◌, ℕ, Bool, true, false, List, [], ◌∷◌, Option, Some, None, MatchOption, Contains, length}
use Rattle.derivation_graph.specs.Graphs.{HasNoCycle, HasStepsForParents, IsStep}
use Rattle.normal_form.specs.Existentials.{existential_in}
use Rattle.normal_form.specs.Sorting.{IsSorted}
use Rattle.normal_form.specs.declared.form.Nf.{Nf}
use Rattle.normal_form.specs.declared.sorting.Sorted.{Sorted}
use Rattle.step_check.specs.Limits.{form_limit, nodes_limit}
use Rattle.step_check.specs.Representatives.{HasNoShape, HasOneParent, IsDerived, IsFit, IsSame, IsSkolem, IsWithin, MayCompose, Represents}
use Rattle.step_check.specs.Steps.{Case, has_conjecture_parent, own_form, parents_of}
use Rattle.step_check.specs.Tables.{AreRight, at, IsKnown, Keeps}
use Rattle.step_check.specs.declared.given.Given.{Given}
use Rattle.step_check.specs.declared.notes.Forms.{Forms}
use Rattle.step_check.specs.declared.notes.Link.{Link}
use Rattle.step_check.specs.declared.notes.Link.TheVariants as link
use Rattle.step_check.specs.declared.notes.Notes.{Notes}
use Rattle.step_check.specs.declared.notes.Own.{Own}
use Rattle.step_check.specs.declared.notes.Representative.{Representative}
use Rattle.step_check.specs.declared.notes.Representative.TheVariants as representative
use Rattle.step_check.specs.declared.verdict.Limit.TheVariants.{NormalForm}
use Rattle.step_check.specs.declared.verdict.Reason.{Reason}
use Rattle.step_check.specs.declared.verdict.Reason.TheVariants.{ConjectureParent, NotConjecture}
use Rattle.step_check.specs.declared.verdict.Verdict.{Verdict}
use Rattle.step_check.specs.declared.verdict.Verdict.TheVariants.{Structural}
use Rattle.step_check.specs.Verdicts.{map_of}
use Rattle.step_skolem.specs.Carrying.{carried}
use Rattle.step_skolem.specs.declared.map.SkEntry.{SkEntry}

-- the case that is given
abbrev pub case_given : Given → Case
case_given given = record { problem = given.problem.now; steps = given.steps.now; rows = given.rows.now }

-- Each parent is a step, there is no cycle, no step has more than eight parents, and each has a row.
pub record IsSound (case : Case) : Type 0 where
  pub parents : HasStepsForParents case.rows
  pub acyclic : HasNoCycle case.rows
  pub few : (i : ℕ) → length (parents_of case i) ≤ 8
  pub long : length case.rows ≡ length case.steps

-- ---- what each note says

-- What is noted of an own normal form.
pub record IsOwnOf (n : Nf) (own : Own) : Type 0 where
  pub form : MatchOption own.form (nodes_limit n ≡ Some NormalForm) (λ form. (form ≡ n) × (nodes_limit n ≡ None) × (own.exists ≡ existential_in n))
  pub limit : own.limit ≡ form_limit n

abbrev pub IsOwn : Case → ℕ → Own → Type 0
IsOwn case i own = IsOwnOf (own_form case i) own

abbrev pub IsSortedOwn : Case → ℕ → Sorted → Type 0
IsSortedOwn case i sorted = IsSorted (own_form case i) sorted

-- The step comes from this one parent, which it fits, with this flag; no limit is passed.
pub record IsFitted (case : Case) (i q : ℕ) (esa : Bool) : Type 0 where
  pub cth : Bool
  pub derived : IsDerived case i cth esa
  pub fit : IsFit case i cth
  pub one : HasOneParent case i q

-- The step says that it is a Skolem step.
abbrev pub SaysSkolem : Case → ℕ → Type 0
SaysSkolem case i = (cth : Bool) × IsDerived case i cth true

-- A composed image from a parent is in question.
abbrev pub MayComposeOne : Case → ℕ → Type 0
MayComposeOne case i = (q : ℕ) × MayCompose case i q

-- The step isn't structural.
abbrev pub IsApart : Case → ℕ → Type 0
IsApart case i = (q : ℕ) (esa : Bool) → IsFitted case i q esa → HasNoShape case i esa

-- The step is the same as its one parent up to order and grouping.
pub record IsSameLink (case : Case) (i q : ℕ) : Type 0 where
  pub esa : Bool
  pub within : IsWithin case i
  pub fitted : IsFitted case i q esa
  pub same : IsSame case i q

-- The step is a Skolem image of its one parent under the map.
pub record IsSkolemLink (case : Case) (i q : ℕ) (entries : List SkEntry) : Type 0 where
  pub within : IsWithin case i
  pub fitted : IsFitted case i q true
  pub map : IsSkolem case i q entries

abbrev pub IsLink : Case → ℕ → Link → Type 0
IsLink case i link.Apart = IsWithin case i → IsApart case i
IsLink case i (link.Same q) = IsSameLink case i q
IsLink case i (link.Skolem q map) = IsSkolemLink case i q map.entries

-- The same, where the form represents the parent.
pub record HangsSame (case : Case) (i : ℕ) (r : Nf) : Type 0 where
  pub parent : ℕ
  pub link : IsSameLink case i parent
  pub above : Represents case parent r

-- The same, where these are the parent's own form and its representative.
pub record HangsSkolem (case : Case) (i : ℕ) (n r : Nf) (entries : List SkEntry) : Type 0 where
  pub parent : ℕ
  pub link : IsSkolemLink case i parent entries
  pub own : n ≡ own_form case parent
  pub above : Represents case parent r

abbrev pub IsImageOf : Case → ℕ → Representative → Type 0
IsImageOf case i representative.Own = Represents case i (own_form case i)
IsImageOf case i (representative.Image r) = Represents case i r

-- ---- what is known

pub record AreForms (case : Case) (forms : Forms) : Type 0 where
  pub owns : AreRight (IsOwn case) forms.owns
  pub sorts : AreRight (IsSortedOwn case) forms.sorts
  pub links : AreRight (IsLink case) forms.links

pub record AreNotes (case : Case) (notes : Notes) : Type 0 where
  pub forms : AreForms case notes.forms
  pub images : AreRight (IsImageOf case) notes.images

-- What was known is known still.
pub record Grow (old new : Forms) : Type 0 where
  pub owns : Keeps old.owns new.owns
  pub links : Keeps old.links new.links

-- The representatives that were known are known still; they may have been found anew.
abbrev pub Spread : List (Option Representative) → List (Option Representative) → Type 0
Spread old new = (i : ℕ) → IsKnown old i → IsKnown new i

-- The own forms of the step and of its parents are known.
pub record AreOwnsKnown (case : Case) (owns : List (Option Own)) (i : ℕ) : Type 0 where
  pub here : IsKnown owns i
  pub parents : (q : ℕ) → Contains (parents_of case i) q → IsKnown owns q

-- So is how the step hangs on its parent.
pub record IsOpened (case : Case) (forms : Forms) (i : ℕ) : Type 0 where
  pub owns : AreOwnsKnown case forms.owns i
  pub link : IsKnown forms.links i

-- the parent on which a step hangs
abbrev pub parent_by : Link → Option ℕ
parent_by link.Apart = None
parent_by (link.Same q) = Some q
parent_by (link.Skolem q map) = Some q

-- It is known that the step hangs on that parent.
abbrev pub Hangs : Forms → ℕ → ℕ → Type 0
Hangs forms i q = (one : Link) × (at forms.links i ≡ Some one) × (parent_by one ≡ Some q)

-- The step is opened, and the representative of the parent on which it hangs is known.
pub record IsReady (case : Case) (forms : Forms) (images : List (Option Representative)) (i : ℕ) : Type 0 where
  pub stands : IsStep case.rows i
  pub opened : IsOpened case forms i
  pub parent : (q : ℕ) → Hangs forms i q → IsKnown images q

-- What the verdict on the step wants to know is known.
pub record IsPrepared (case : Case) (notes : Notes) (i : ℕ) : Type 0 where
  pub opened : IsOpened case notes.forms i
  pub images : (q : ℕ) → Contains (parents_of case i) q → IsKnown notes.images q

-- ---- parts of verdicts

-- The form has a short clause list: no existential stands in it, and it passes no limit.
pub record IsShort (n : Nf) : Type 0 where
  pub plain : existential_in n ≡ false
  pub within : form_limit n ≡ None

-- The verdict is structural, by the map of the parent's own form, carried to the parent's representative.
abbrev pub IsCarriedVerdict : Case → ℕ → List SkEntry → Verdict → Type 0
IsCarriedVerdict case q entries verdict = (r : Nf) × Represents case q r × (verdict ≡ Structural (map_of (carried (own_form case q) r entries)))

-- Why the step doesn't fit its parents.
abbrev pub IsMisfit : Case → ℕ → Bool → Reason → Type 0
IsMisfit case i cth reason =
    ((has_conjecture_parent case i ≡ true) × (cth ≡ false) × (reason ≡ ConjectureParent))
    ⊎ ((has_conjecture_parent case i ≡ false) × (cth ≡ true) × (reason ≡ NotConjecture))

-- ---- paths along parents on which steps hang

-- The step is opened and hangs on that parent.
pub record HangsOn (case : Case) (forms : Forms) (q i : ℕ) : Type 0 where
  pub stands : IsStep case.rows i
  pub opened : IsOpened case forms i
  pub hangs : Hangs forms i q

-- Each of the steps hangs on the one before it in the list, the first on this one.
abbrev pub HangOn : Case → Forms → ℕ → List ℕ → Type 0
HangOn case forms q [] = Unit {0}
HangOn case forms q (i ∷ rest) = HangsOn case forms q i × HangOn case forms i rest

-- The first step is ready, and each other hangs on the one before it.
abbrev pub IsPath : Case → Forms → List (Option Representative) → List ℕ → Type 0
IsPath case forms images [] = Unit {0}
IsPath case forms images (i ∷ rest) = IsReady case forms images i × HangOn case forms i rest

-- the last number of the list is that one
abbrev pub EndsIn : List ℕ → ℕ → Type 0
EndsIn [] n = ⊥
EndsIn (i ∷ []) n = i ≡ n
EndsIn (i ∷ j ∷ rest) n = EndsIn (j ∷ rest) n
