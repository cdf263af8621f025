-- What names an instance: a step, a stage, the number of a clause, and a ground term for each of its variables.
use Rattle.std.specs.Prelude.{◌≡◌, ℕ, zero, suc, Bool, true, false, List, [], ◌∷◌, slice_get, get_or, Option, Some, None}
use Rattle.dk_syntax.specs.declared.clause.Clause.{Clause}
use Rattle.dk_syntax.specs.declared.term.Term.{Term}
use Rattle.derivation_graph.specs.Graphs.{parents_in}
use Rattle.derivation_graph.specs.declared.graph.Graph.{Graph}
use Rattle.normal_form.specs.ClauseLists.{clause_rows}
use Rattle.normal_form.specs.Normal.{normal_of}
use Rattle.normal_form.specs.declared.clause_list.ClauseRow.{ClauseRow}
use Rattle.normal_form.specs.declared.form.Nf.{Nf}
use Rattle.step_chain.specs.declared.chain.Chain.{Chain}
use Rattle.step_check.specs.Steps.{step_in}
use Rattle.step_check.specs.declared.verdict.Verdict.{Verdict}
use Rattle.step_check.specs.declared.verdict.Verdicts.{Verdicts}
use Rattle.step_check.specs.declared.verdict.Verdict.TheVariants.{Chained, Clausal, Composes, Conjecture, Leaf, Over, Structural, Wrong}
use Rattle.step_compose.specs.declared.composed.Composed.{Composed}
use Rattle.step_skolem.specs.Images.{IsImage}
use Rattle.step_skolem.specs.declared.map.SkMap.{SkMap}
use Rattle.tstp_trace.specs.declared.step.Step.{Step}
use Rattle.tstp_trace.specs.declared.step.Trace.{Trace}

-- what is pulled back: the steps of a trace, the numbers of each step's parents, and the verdict list
pub record Judged : Type 0 where
  pub steps : List Step
  pub rows : List (List ℕ)
  pub verdicts : List Verdict

abbrev pub judged_by : Trace → Graph → Verdicts → Judged
judged_by trace graph verdicts = record { steps = trace.steps; rows = graph.parents; verdicts = verdicts.list }

-- the name of an instance; stage 0 is of the step's own clauses
pub record Key : Type 0 where
  pub step : ℕ
  pub stage : ℕ
  pub clause : ℕ
  pub terms : List Term

abbrev pub key : ℕ → ℕ → ℕ → List Term → Key
key step stage clause terms = record { step = step; stage = stage; clause = clause; terms = terms }

-- the sign of a leaf that names the conjecture is negative, and any other step's is positive
abbrev pub sign_of : Verdict → Bool
sign_of Leaf = true
sign_of Conjecture = false
sign_of (Structural map_here) = true
sign_of (Clausal steps) = true
sign_of (Chained chains) = true
sign_of (Composes composed) = true
sign_of (Wrong reason) = true
sign_of (Over limit) = true

-- the step isn't structural
abbrev pub IsOwnBase : Verdict → Type 0
IsOwnBase Leaf = Unit {0}
IsOwnBase Conjecture = Unit {0}
IsOwnBase (Structural map_here) = ⊥
IsOwnBase (Clausal steps) = Unit {0}
IsOwnBase (Chained chains) = Unit {0}
IsOwnBase (Composes composed) = Unit {0}
IsOwnBase (Wrong reason) = Unit {0}
IsOwnBase (Over limit) = Unit {0}

-- the step is a leaf
abbrev pub IsLeafVerdict : Verdict → Type 0
IsLeafVerdict Leaf = Unit {0}
IsLeafVerdict Conjecture = Unit {0}
IsLeafVerdict (Structural map_here) = ⊥
IsLeafVerdict (Clausal steps) = ⊥
IsLeafVerdict (Chained chains) = ⊥
IsLeafVerdict (Composes composed) = ⊥
IsLeafVerdict (Wrong reason) = ⊥
IsLeafVerdict (Over limit) = ⊥

-- the verdict on the step of that number
abbrev pub verdict_in : List Verdict → ℕ → Option Verdict
verdict_in verdicts zero = None
verdict_in verdicts (suc place) = slice_get verdicts place

module _ (judged : Judged) where
  -- the step has that verdict
  abbrev pub Has : ℕ → Verdict → Type 0
  Has i verdict = verdict_in judged.verdicts i ≡ Some verdict

  -- the numbers of the step's parents
  abbrev pub parents_at : ℕ → List ℕ
  parents_at i = parents_in judged.rows i

  -- the parent with that number in the step's list of parents; where it isn't there, 0 stands for none
  abbrev pub parent_at : ℕ → ℕ → ℕ
  parent_at i k = get_or (parents_at i) k 0

  -- the first step that isn't structural on the way through structural parents
  pub data IsBase : ℕ → ℕ → Type 0 where
    itself : (i : ℕ) (verdict : Verdict) → Has i verdict → IsOwnBase verdict → IsBase i i
    through : (i q base : ℕ) (map_here : SkMap) → Has i (Structural map_here) → parents_at i ≡ q ∷ [] → IsBase q base → IsBase i base

  -- the base is a leaf
  abbrev pub IsLeafBase : ℕ → Type 0
  IsLeafBase i = (base : ℕ) × (verdict : Verdict) × IsBase i base × Has base verdict × IsLeafVerdict verdict

  -- the form that represents a step, as the verdicts tell it
  pub data Stands : ℕ → Nf → Type 0 where
    own : (i : ℕ) (step : Step) (verdict : Verdict) → Has i verdict → IsOwnBase verdict → step_in judged.steps i ≡ Some step
        → Stands i (normal_of step.formula (sign_of verdict))
    image : (i q : ℕ) (r s : Nf) (map_here : SkMap) → Has i (Structural map_here) → parents_at i ≡ q ∷ [] → Stands q r
        → IsImage r map_here.entries s → Stands i s

  -- the clause of an instance: one of the representative's list at stage 0; a chain's middle clause, or one of a composed
  -- image, at a later stage
  pub data IsClauseOf : Key → Clause → Type 0 where
    listed : (i c : ℕ) (terms : List Term) (r : Nf) (row : ClauseRow) → Stands i r → slice_get (clause_rows r) c ≡ Some row
        → IsClauseOf (key i 0 c terms) row.clause
    middle : (i j c : ℕ) (terms : List Term) (chains : List Chain) (chain : Chain) (clause : Clause) → Has i (Chained chains)
        → slice_get chains c ≡ Some chain → slice_get chain.mids j ≡ Some clause → IsClauseOf (key i (suc j) c terms) clause
    imaged : (i c : ℕ) (terms : List Term) (composed : Composed) (row : ClauseRow) → Has i (Composes composed)
        → slice_get composed.image.rows c ≡ Some row → IsClauseOf (key i 1 c terms) row.clause
