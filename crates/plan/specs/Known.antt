-- What is known while the maps of steps and the origins of symbols are made. Only private contracts cite this.
use Rattle.std.specs.Prelude.{◌≡◌, ◌≤◌, ◌⊎◌, ℕ, Bool, true, false, List, [], ◌∷◌, Contains, find, IsSome, Option, Some, None}
use Rattle.std.specs.List.{All, AllZip}
use Rattle.derivation_graph.specs.Graphs.{HasParent}
use Rattle.dk_syntax.specs.Symbols.{same_symbol}
use Rattle.dk_syntax.specs.declared.Problem.{Problem}
use Rattle.dk_syntax.specs.declared.formula.Formula.{Formula}
use Rattle.dk_syntax.specs.declared.symbol.SymKey.{SymKey}
use Rattle.ground_instances.specs.Keys.{Has, Judged, parents_at}
use Rattle.normal_form.specs.Normal.{nodes_of, normal_of}
use Rattle.normal_form.specs.declared.form.Nf.{Nf}
use Rattle.plan.specs.Laws.{AreRightSteps}
use Rattle.plan.specs.Maps.{HasLeaf, IsMap, IsMapAnswer, map_at}
use Rattle.plan.specs.Origins.{AreOriginsOf}
use Rattle.plan.specs.declared.given.Given.{Given}
use Rattle.plan.specs.declared.maps.StepMap.{StepMap}
use Rattle.skolem_order.specs.declared.origins.Origin.{Origin}
use Rattle.step_check.specs.Freshness.{introduced}
use Rattle.step_check.specs.Steps.{Case, step_in}
use Rattle.step_check.specs.declared.verdict.Verdict.{Verdict}
use Rattle.step_check.specs.declared.verdict.Verdict.TheVariants.{Chained, Clausal, Composes, Conjecture, Leaf, Over, Structural, Wrong}
use Rattle.step_compose.specs.declared.composed.Composed.{Composed}
use Rattle.step_skolem.specs.Images.{entry, IsImage}
use Rattle.step_skolem.specs.declared.map.SkEntry.{SkEntry}
use Rattle.step_skolem.specs.declared.map.SkMap.{SkMap}
use Rattle.tstp_trace.specs.declared.step.Step.{Step}

-- ---- what is given

-- as one value
abbrev pub judged_given : Given → Judged
judged_given given = record { steps = given.steps.now; rows = given.rows.now; verdicts = given.verdicts.now }

-- as what is judged for the problem
abbrev pub case_given : Problem → Given → Case
case_given problem given = record { problem = problem; steps = given.steps.now; rows = given.rows.now }

-- for some problem the verdicts are those on the steps, none is bad, and no step is on a cycle
abbrev pub IsRightGiven : Given → Type 0
IsRightGiven given = (problem : Problem) × AreRightSteps (case_given problem given) given.verdicts.now

-- whether the verdict is that of a composed step
abbrev pub is_composed : Verdict → Bool
is_composed Leaf = false
is_composed Conjecture = false
is_composed (Structural map_here) = false
is_composed (Clausal steps) = false
is_composed (Chained chains) = false
is_composed (Composes composed) = true
is_composed (Wrong reason) = false
is_composed (Over limit) = false

-- whether there is a verdict, which is that of a composed step
abbrev pub is_composed_at : Option Verdict → Bool
is_composed_at None = false
is_composed_at (Some verdict) = is_composed verdict

-- ---- maps

module _ (judged : Judged) where
  -- the step's base is no leaf
  abbrev pub HasNoLeaf : ℕ → Type 0
  HasNoLeaf i = (f : Formula) (sign : Bool) → HasLeaf judged i f sign → ⊥

  -- it has the number of the step's base, which is a leaf, the leaf's sign and the map to the form that represents the step
  pub record IsFormMap (i : ℕ) (it : StepMap) : Type 0 where
    pub step : Step
    pub stands : step_in judged.steps it.leaf ≡ Some step
    pub maps : IsMap judged i step.formula it.sign it.map.entries
    pub based : maps.leaf.base ≡ it.leaf

  -- the same of the step's one parent
  pub record IsAbove (i : ℕ) (it : StepMap) : Type 0 where
    pub parent : ℕ
    pub one : parents_at judged i ≡ parent ∷ []
    pub map : IsFormMap parent it

  -- there is no leaf under the step's one parent
  abbrev pub NoneAbove : ℕ → Type 0
  NoneAbove i = (q : ℕ) → parents_at judged i ≡ q ∷ [] → HasNoLeaf q

  -- the step is structural or composed, with that map
  abbrev pub HasOwnMap : ℕ → SkMap → Type 0
  HasOwnMap i own = Has judged i (Structural own) ⊎ ((composed : Composed) × Has judged i (Composes composed) × (composed.map ≡ own))

  -- the maps of the step's parents are known
  abbrev pub AreParentsKnown : List (Option StepMap) → ℕ → Type 0
  AreParentsKnown maps i = (q : ℕ) → HasParent judged.rows i q → IsMapAnswer judged q (map_at maps q)

  -- the maps of these steps are known
  abbrev pub AreKnown : List ℕ → List (Option StepMap) → Type 0
  AreKnown listed maps = (i : ℕ) → Contains listed i → IsMapAnswer judged i (map_at maps i)

-- the leaf stands among the steps, and its form is within the limit
abbrev pub HasFitLeaf : List Step → StepMap → Type 0
HasFitLeaf steps it = (step : Step) × (step_in steps it.leaf ≡ Some step) × (nodes_of (normal_of step.formula it.sign) ≤ 100000)

-- it is the leaf's form
abbrev pub IsLeafForm : List Step → StepMap → Nf → Type 0
IsLeafForm steps it form = (step : Step) → step_in steps it.leaf ≡ Some step → form ≡ normal_of step.formula it.sign

-- these entries lead from the leaf's form to where the next map leads after the first
abbrev pub LeadsOn : List Step → StepMap → List SkEntry → List SkEntry → Type 0
LeadsOn steps first next both =
    (step : Step) (middle last : Nf) → step_in steps first.leaf ≡ Some step → IsImage (normal_of step.formula first.sign) first.map.entries middle
    → IsImage middle next last → IsImage (normal_of step.formula first.sign) both last

-- ---- origins

-- the first entry with that symbol
abbrev pub first_named : List SkEntry → SymKey → Option SkEntry
first_named entries symbol = find (λ one. same_symbol one.symbol symbol) entries

-- an entry has that symbol
abbrev pub HasFirst : List SkEntry → SymKey → Type 0
HasFirst entries symbol = IsSome (first_named entries symbol)

-- the symbols of the own entries stand in the map
abbrev pub AreNamed : List SkEntry → List SkEntry → Type 0
AreNamed entries own = All (λ one. HasFirst entries one.symbol) own

-- the origin of a symbol, by the leaf's formula and the step's map
pub record IsOriginBy (leaf : Formula) (it : StepMap) (symbol : SymKey) (origin : Origin) : Type 0 where
  pub named : origin.symbol ≡ symbol
  pub formula : origin.leaf ≡ leaf
  pub signed : origin.sign ≡ it.sign
  pub mapped : origin.map.entries ≡ it.map.entries
  pub args : List ℕ
  pub own : Contains it.map.entries (entry origin.ex symbol args)

-- the origins of symbols, in order
abbrev pub AreOriginsBy : Formula → StepMap → List SymKey → List Origin → Type 0
AreOriginsBy leaf it = AllZip (IsOriginBy leaf it)

-- the origins are those of the symbols that the step introduces
abbrev pub AreIntroduced : Judged → ℕ → List Origin → Type 0
AreIntroduced judged i here = (verdict : Verdict) → Has judged i verdict → AreOriginsOf judged i (introduced verdict) here
