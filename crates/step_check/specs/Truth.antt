-- What the verdicts say of the truth of the steps' formulas.
use Rattle.std.specs.Prelude.{◌≡◌, ℕ, Bool, true, false, not, [], Contains, Option, None, Some}
use Rattle.dk_syntax.specs.WellFormed.{IsClosed}
use Rattle.dk_syntax.specs.declared.Problem.{Problem}
use Rattle.normal_form.specs.ClauseTruth.{AllIsEach, EachIsAll}
use Rattle.normal_form.specs.Truth.{Interpretation, signed, truth}
use Rattle.step_check.specs.Representatives.{HasOneParent}
use Rattle.step_check.specs.Steps.{Case, is_conjecture_leaf, parents_of, step_in}
use Rattle.step_check.specs.Verdicts.{HasVerdict, map_of}
use Rattle.step_check.specs.declared.verdict.Verdict.{Verdict}
use Rattle.step_check.specs.declared.verdict.Verdict.TheVariants.{Chained, Clausal, Composes, Conjecture, Leaf, Over, Structural, Wrong}
use Rattle.tstp_trace.specs.declared.step.Step.{Step}

-- what is true of all members of the domain is true of each, and the other way round
abbrev pub AllMeansEach : {D : Type 0} → Interpretation D → Type 0
AllMeansEach i = AllIsEach i × EachIsAll i

-- the truth of a step's formula, negated for a leaf that names the conjecture; $true stands for no step
abbrev pub step_truth : {D : Type 0} → Interpretation D → (ℕ → D) → Problem → Option Step → Bool
step_truth i values problem None = true
step_truth i values problem (Some step) = signed (not (is_conjecture_leaf problem step.source)) (truth i step.formula values)

-- the verdict says that the clauses of the step follow from its parents as they are
abbrev pub is_by_clauses : Verdict → Bool
is_by_clauses Leaf = false
is_by_clauses Conjecture = false
is_by_clauses (Structural map_here) = false
is_by_clauses (Clausal steps) = true
is_by_clauses (Chained chains) = true
is_by_clauses (Composes composed) = false
is_by_clauses (Wrong reason) = false
is_by_clauses (Over limit) = false

module _ (case : Case) where
  -- no variable is free in the step's formula
  abbrev pub IsClosedStep : ℕ → Type 0
  IsClosedStep k = (step : Step) → step_in case.steps k ≡ Some step → IsClosed step.formula

  -- the truth of the step's formula, as step_truth has it
  abbrev pub truth_at : {D : Type 0} → Interpretation D → (ℕ → D) → ℕ → Bool
  truth_at i values k = step_truth i values case.problem (step_in case.steps k)

  -- the step's formula is true at all values of the variables
  abbrev pub Holds : {D : Type 0} → Interpretation D → ℕ → Type 0
  Holds {D = D} i k = (values : ℕ → D) → truth_at i values k ≡ true

  -- in each interpretation over the domain in which "all" means "each", the step's formula is true where its parents' are
  abbrev pub FollowsFromParents : (D : Type 0) → ℕ → Type 0
  FollowsFromParents D k = (i : Interpretation D) → AllMeansEach i → ((q : ℕ) → Contains (parents_of case k) q → Holds i q) → Holds i k

  -- in each interpretation over the domain, the formulas of both steps have one truth value
  abbrev pub MeansTheSame : (D : Type 0) → ℕ → ℕ → Type 0
  MeansTheSame D k q = (i : Interpretation D) (values : ℕ → D) → truth_at i values k ≡ truth_at i values q

-- a closed step that is right by its clauses follows from its parents
abbrev pub ClausesKeepTruth : (D : Type 0) → Type 0
ClausesKeepTruth D =
    (case : Case) (k : ℕ) (verdict : Verdict) → IsClosedStep case k → HasVerdict case k verdict → is_by_clauses verdict ≡ true → FollowsFromParents case D k

-- a structural step with an empty map means the same as its parent
abbrev pub EmptyMapKeepsMeaning : (D : Type 0) → Type 0
EmptyMapKeepsMeaning D = (case : Case) (k q : ℕ) → HasOneParent case k q → HasVerdict case k (Structural (map_of [])) → MeansTheSame case D k q
