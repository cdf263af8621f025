-- The leaf on which a step stands, and the map that leads from the leaf's form.
use Rattle.std.specs.Prelude.{◌≡◌, ℕ, zero, suc, Bool, List, [], ◌∷◌, length, get_or, Option, Some, None, MatchOption}
use Rattle.dk_syntax.specs.declared.formula.Formula.{Formula}
use Rattle.ground_instances.specs.Keys.{Has, IsBase, IsLeafVerdict, Judged, parents_at, sign_of, Stands}
use Rattle.normal_form.specs.Normal.{normal_of}
use Rattle.normal_form.specs.declared.form.Nf.{Nf}
use Rattle.plan.specs.declared.maps.StepMap.{StepMap}
use Rattle.step_check.specs.Steps.{step_in}
use Rattle.step_check.specs.declared.verdict.Verdict.{Verdict}
use Rattle.step_check.specs.declared.verdict.Verdict.TheVariants.{Composes}
use Rattle.step_compose.specs.declared.composed.Composed.{Composed}
use Rattle.step_skolem.specs.Images.{IsImage}
use Rattle.step_skolem.specs.declared.map.SkEntry.{SkEntry}
use Rattle.tstp_trace.specs.declared.step.Step.{Step}

-- the map in the list that is that of the step of this number, or none
abbrev pub map_at : List (Option StepMap) → ℕ → Option StepMap
map_at maps zero = None
map_at maps (suc place) = get_or maps place None

module _ (judged : Judged) where
  -- the base of the step is a leaf with that formula and sign
  pub record HasLeaf (i : ℕ) (f : Formula) (sign : Bool) : Type 0 where
    pub base : ℕ
    pub verdict : Verdict
    pub step : Step
    pub from : IsBase judged i base
    pub here : Has judged base verdict
    pub leaf : IsLeafVerdict verdict
    pub stands : step_in judged.steps base ≡ Some step
    pub formula : step.formula ≡ f
    pub signed : sign_of verdict ≡ sign

  -- the map leads from the leaf's form to the form that represents the step
  pub record IsMap (i : ℕ) (f : Formula) (sign : Bool) (entries : List SkEntry) : Type 0 where
    pub leaf : HasLeaf i f sign
    pub form : Nf
    pub represents : Stands judged i form
    pub leads : IsImage (normal_of f sign) entries form

  -- the step is composed, and the map leads from the leaf's form to the image of the form that represents its parent
  pub record IsComposedMap (i : ℕ) (f : Formula) (sign : Bool) (entries : List SkEntry) : Type 0 where
    pub parent : ℕ
    pub composed : Composed
    pub here : Has judged i (Composes composed)
    pub one : parents_at judged i ≡ parent ∷ []
    pub leaf : HasLeaf parent f sign
    pub above : Nf
    pub represents : Stands judged parent above
    pub form : Nf
    pub image : IsImage above composed.map.entries form
    pub leads : IsImage (normal_of f sign) entries form

  -- the map of a step: to the form that represents it, or to the image from which its clauses follow
  pub data IsMapOf (i : ℕ) (f : Formula) (sign : Bool) (entries : List SkEntry) : Type 0 where
    to_form : IsMap i f sign entries → IsMapOf i f sign entries
    to_image : IsComposedMap i f sign entries → IsMapOf i f sign entries

  -- no map is the step's
  abbrev pub HasNoMap : ℕ → Type 0
  HasNoMap i = (f : Formula) (sign : Bool) (entries : List SkEntry) → IsMapOf i f sign entries → ⊥

  -- the number of the leaf on which the step stands, or its parent where the step is composed
  abbrev pub leaf_of : {i : ℕ} {f : Formula} {sign : Bool} {entries : List SkEntry} → IsMapOf i f sign entries → ℕ
  leaf_of (to_form a) = a.leaf.base
  leaf_of (to_image a) = a.leaf.base

  -- it has the number of that leaf, the leaf's sign and the step's map
  pub record IsStepMap (i : ℕ) (it : StepMap) : Type 0 where
    pub step : Step
    pub stands : step_in judged.steps it.leaf ≡ Some step
    pub maps : IsMapOf i step.formula it.sign it.map.entries
    pub based : leaf_of maps ≡ it.leaf

  -- the step's map, or none where it has none
  abbrev pub IsMapAnswer : ℕ → Option StepMap → Type 0
  IsMapAnswer i answer = MatchOption answer (HasNoMap i) (IsStepMap i)

  -- the maps of the steps, in order
  pub record AreStepMaps (maps : List (Option StepMap)) : Type 0 where
    pub long : length maps ≡ length judged.steps
    pub each : (i : ℕ) → IsMapAnswer i (map_at maps i)
