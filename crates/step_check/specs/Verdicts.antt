-- The verdict on a step: the first case that applies. Freshness comes later, for all steps together.
use Rattle.std.specs.Prelude.{◌≡◌, ℕ, ◌<◌, ◌≤◌, ◌⊎◌, Bool, true, false, List, [], ◌∷◌, length, slice_get, Option, Some, None}
use Rattle.dk_syntax.specs.declared.Named.{Named}
use Rattle.dk_syntax.specs.declared.SymKey.{SymKey}
use Rattle.normal_form.specs.ClauseLists.{clause_rows}
use Rattle.normal_form.specs.declared.clause_list.ClauseList.{ClauseList}
use Rattle.normal_form.specs.declared.clause_list.ClauseRow.{ClauseRow}
use Rattle.normal_form.specs.declared.form.Nf.{Nf}
use Rattle.step_chain.specs.Chains.{HasNoChain, IsLeastChain}
use Rattle.step_chain.specs.declared.chain.Chain.{Chain}
use Rattle.step_check.specs.Limits.{full_limit, limit_at}
use Rattle.step_check.specs.Representatives.{HasNoShape, HasOneParent, IsDerived, IsFit, IsSame, IsSkolem, IsWithin, MayCompose, Represents}
use Rattle.step_check.specs.Steps.{aliens_of, Case, has_conjecture_parent, has_existential, item_named, names_conjecture, own_form, parents_of, step_in}
use Rattle.step_check.specs.declared.verdict.Limit.{Limit}
use Rattle.step_check.specs.declared.verdict.Reason.{Reason}
use Rattle.step_check.specs.declared.verdict.Reason.TheVariants.{AlienSymbol, AlteredLeaf, ConjectureParent, HasExists, NotConjecture, NotImage, UnknownLeaf, Unjustified}
use Rattle.step_check.specs.declared.verdict.Verdict.{Verdict}
use Rattle.step_check.specs.declared.verdict.Verdict.TheVariants.{Chained, Clausal, Composes, Conjecture, Leaf, Over, Structural, Wrong}
use Rattle.step_clause.specs.Justifications.{IsJustification}
use Rattle.step_clause.specs.declared.justification.Justification.{Justification}
use Rattle.step_compose.specs.Composing.{AreJustified, IsLeastComposed, NoneComposes}
use Rattle.step_compose.specs.declared.composed.Composed.{Composed}
use Rattle.step_skolem.specs.Carrying.{carried}
use Rattle.step_skolem.specs.declared.map.SkEntry.{SkEntry}
use Rattle.step_skolem.specs.declared.map.SkMap.{SkMap}
use Rattle.tstp_trace.specs.declared.step.Step.{Step}
use Rattle.tstp_trace.specs.declared.step.StepSource.TheVariants as source

-- the map of these entries
abbrev pub map_of : List SkEntry → SkMap
map_of entries = record { entries = entries }

-- ---- leaves

-- The verdict on a leaf, by its formula and the problem's item of its name.
pub data IsLeafVerdict (case : Case) (step : Step) (name : List ℕ) : Verdict → Type 0 where
  unknown : item_named case.problem name ≡ None → IsLeafVerdict case step name (Wrong UnknownLeaf)
  altered : (item : Named) → item_named case.problem name ≡ Some item → (item.formula ≡ step.formula → ⊥) → IsLeafVerdict case step name (Wrong AlteredLeaf)
  conjecture : (item : Named) → item_named case.problem name ≡ Some item → item.formula ≡ step.formula
      → names_conjecture case.problem name ≡ true → IsLeafVerdict case step name Conjecture
  leaf : (item : Named) → item_named case.problem name ≡ Some item → item.formula ≡ step.formula
      → names_conjecture case.problem name ≡ false → IsLeafVerdict case step name Leaf

-- ---- clauses

-- The list is the clause list of the step's representative.
abbrev pub IsListAt : Case → ℕ → ClauseList → Type 0
IsListAt case q list = (r : Nf) × Represents case q r × (list.rows ≡ clause_rows r)

-- The clause lists are those of the steps' representatives.
abbrev pub AreLists : Case → List ℕ → List ClauseList → Type 0
AreLists case [] [] = Unit {0}
AreLists case [] (list ∷ lists) = ⊥
AreLists case (q ∷ parents) [] = ⊥
AreLists case (q ∷ parents) (list ∷ lists) = IsListAt case q list × AreLists case parents lists

-- Each clause of the rows has its chain from the lists.
abbrev pub AreChained : List ClauseRow → List ClauseList → List Chain → Type 0
AreChained [] lists [] = Unit {0}
AreChained [] lists (chain ∷ chains) = ⊥
AreChained (row ∷ rows) lists [] = ⊥
AreChained (row ∷ rows) lists (chain ∷ chains) = IsLeastChain row.clause lists chain × AreChained rows lists chains

-- The clause follows: from no more than two lists by a justification, from more by a chain.
abbrev pub Follows : List ClauseList → ClauseRow → Type 0
Follows lists row =
    ((length lists ≤ 2) × ((step : Justification) × IsJustification row.clause lists (Some step)))
    ⊎ ((2 < length lists) × ((chain : Chain) × IsLeastChain row.clause lists chain))

-- It doesn't follow.
abbrev pub FollowsNot : List ClauseList → ClauseRow → Type 0
FollowsNot lists row = ((length lists ≤ 2) × IsJustification row.clause lists None) ⊎ ((2 < length lists) × HasNoChain row.clause lists)

-- The clause with that number is the first that doesn't follow.
pub record IsFirstUnjustified (lists : List ClauseList) (rows : List ClauseRow) (number : ℕ) : Type 0 where
  pub earlier : (k : ℕ) (row : ClauseRow) → k < number → slice_get rows k ≡ Some row → Follows lists row
  pub row : ClauseRow
  pub stands : slice_get rows number ≡ Some row
  pub fails : FollowsNot lists row

-- The verdict on the clauses of a step, by the clause lists of its parents.
pub data IsClausalVerdict (lists : List ClauseList) (rows : List ClauseRow) : Verdict → Type 0 where
  clausal : (steps : List Justification) → length lists ≤ 2 → AreJustified rows lists steps → IsClausalVerdict lists rows (Clausal steps)
  chained : (chains : List Chain) → 2 < length lists → AreChained rows lists chains → IsClausalVerdict lists rows (Chained chains)
  unjustified : (number : ℕ) → IsFirstUnjustified lists rows number → IsClausalVerdict lists rows (Wrong (Unjustified number))

-- ---- the cases in order

module _ (case : Case) where
  -- The verdict on a step that has neither flag and isn't structural.
  pub data IsPlainVerdict (i : ℕ) : Verdict → Type 0 where
    has_exists : has_existential case i ≡ true → IsPlainVerdict i (Wrong HasExists)
    alien : (symbol : SymKey) → has_existential case i ≡ false → slice_get (aliens_of case i) 0 ≡ Some symbol → IsPlainVerdict i (Wrong (AlienSymbol symbol))
    by_clauses : (lists : List ClauseList) (verdict : Verdict) → has_existential case i ≡ false → aliens_of case i ≡ []
        → AreLists case (parents_of case i) lists → IsClausalVerdict lists (clause_rows (own_form case i)) verdict → IsPlainVerdict i verdict

  -- The verdict on a step that has a flag and isn't structural.
  pub data IsFlaggedVerdict (i : ℕ) : Verdict → Type 0 where
    composes : (q : ℕ) (r : Nf) (composed : Composed) → MayCompose case i q → Represents case q r
        → IsLeastComposed r (aliens_of case i) (clause_rows (own_form case i)) composed → IsFlaggedVerdict i (Composes composed)
    composes_not : (q : ℕ) (r : Nf) → MayCompose case i q → Represents case q r
        → NoneComposes r (aliens_of case i) (clause_rows (own_form case i)) → IsFlaggedVerdict i (Wrong NotImage)
    in_no_question : ((q : ℕ) → MayCompose case i q → ⊥) → IsFlaggedVerdict i (Wrong NotImage)

  -- The verdict on a step that comes from fit parents and isn't structural, by its two flags.
  abbrev pub IsOtherVerdict : ℕ → Bool → Bool → Verdict → Type 0
  IsOtherVerdict i false false verdict = IsPlainVerdict i verdict
  IsOtherVerdict i true esa verdict = IsFlaggedVerdict i verdict
  IsOtherVerdict i false true verdict = IsFlaggedVerdict i verdict

  -- The verdict on a step that is over no limit and comes from other steps.
  pub data IsInferenceVerdict (i : ℕ) (cth esa : Bool) : Verdict → Type 0 where
    conjecture_parent : cth ≡ false → has_conjecture_parent case i ≡ true → IsInferenceVerdict i cth esa (Wrong ConjectureParent)
    not_conjecture : cth ≡ true → has_conjecture_parent case i ≡ false → IsInferenceVerdict i cth esa (Wrong NotConjecture)
    same : (q : ℕ) → IsFit case i cth → HasOneParent case i q → IsSame case i q → IsInferenceVerdict i cth esa (Structural (map_of []))
    skolem : (q : ℕ) (r : Nf) (entries : List SkEntry) → IsFit case i cth → HasOneParent case i q → esa ≡ true → IsSkolem case i q entries
        → Represents case q r → IsInferenceVerdict i cth esa (Structural (map_of (carried (own_form case q) r entries)))
    other : (verdict : Verdict) → IsFit case i cth → HasNoShape case i esa → IsOtherVerdict i cth esa verdict → IsInferenceVerdict i cth esa verdict

  -- No limit is passed: by an own form of the step and of its parents, or by the full image where it is in question.
  pub record IsWithinAll (i : ℕ) : Type 0 where
    pub within : IsWithin case i
    pub full : (q : ℕ) → MayCompose case i q → (r : Nf) × Represents case q r × (full_limit r ≡ None)

  -- The verdict on a step, before freshness.
  pub data HasVerdict : ℕ → Verdict → Type 0 where
    over : (i : ℕ) (limit : Limit) → limit_at case i ≡ Some limit → HasVerdict i (Over limit)
    over_full : (i q : ℕ) (r : Nf) (limit : Limit) → IsWithin case i → MayCompose case i q → Represents case q r
        → full_limit r ≡ Some limit → HasVerdict i (Over limit)
    of_leaf : (i : ℕ) (step : Step) (name : List ℕ) (verdict : Verdict) → IsWithinAll i → step_in case.steps i ≡ Some step → step.source ≡ source.Leaf name
        → IsLeafVerdict case step name verdict → HasVerdict i verdict
    of_inference : (i : ℕ) (cth esa : Bool) (verdict : Verdict) → IsWithinAll i → IsDerived case i cth esa
        → IsInferenceVerdict i cth esa verdict → HasVerdict i verdict
