-- The verdict list: symbols that were introduced before are not fresh.
use Rattle.std.specs.Prelude.{◌≡◌, ℕ, suc, ◌+◌, ◌<◌, Bool, true, false, ◌||◌, List, [], ◌∷◌, ◌++◌, map, if◌then◌else◌, find, length, slice_get, Option, Some, None, MatchOption}
use Rattle.dk_syntax.specs.Symbols.{joined, same_symbol}
use Rattle.dk_syntax.specs.declared.SymKey.{SymKey}
use Rattle.step_check.specs.Steps.{Case, stands_in}
use Rattle.step_check.specs.Verdicts.{HasVerdict}
use Rattle.step_check.specs.declared.verdict.Reason.TheVariants.{NotFresh}
use Rattle.step_check.specs.declared.verdict.Verdict.{Verdict}
use Rattle.step_check.specs.declared.verdict.Verdict.TheVariants.{Chained, Clausal, Composes, Conjecture, Leaf, Over, Structural, Wrong}

-- the symbols that a structural or composed step introduces
abbrev pub introduced : Verdict → List SymKey
introduced Leaf = []
introduced Conjecture = []
introduced (Structural map_here) = map (λ one. one.symbol) map_here.entries
introduced (Clausal steps) = []
introduced (Chained chains) = []
introduced (Composes composed) = map (λ one. one.symbol) composed.map.entries
introduced (Wrong reason) = []
introduced (Over limit) = []

-- the symbol stands twice in the list
abbrev pub stands_twice : List SymKey → SymKey → Bool
stands_twice [] symbol = false
stands_twice (one ∷ rest) symbol = if same_symbol symbol one then stands_in rest symbol else stands_twice rest symbol

-- the symbols that these steps introduce
abbrev pub introduced_by : List Verdict → List SymKey
introduced_by verdicts = joined (map introduced verdicts)

-- the symbol of a map with these symbols is among the known ones, or stands twice in the map
abbrev pub is_stale : List SymKey → List SymKey → SymKey → Bool
is_stale known symbols symbol = stands_in known symbol || stands_twice symbols symbol

-- the first symbol of the step's map that is not fresh
abbrev pub stale : List SymKey → Verdict → Option SymKey
stale known verdict = find (is_stale known (introduced verdict)) (introduced verdict)

abbrev pub refused_by : Option SymKey → Verdict → Verdict
refused_by None verdict = verdict
refused_by (Some symbol) verdict = Wrong (NotFresh symbol)

-- the verdicts with freshness, where these symbols are known; a step that isn't fresh introduces its symbols all the same
abbrev pub freshened : List SymKey → List Verdict → List Verdict
freshened known [] = []
freshened known (verdict ∷ rest) = refused_by (stale known verdict) verdict ∷ freshened (known ++ introduced verdict) rest

-- Before freshness the steps after the first so many have these verdicts, in order.
abbrev pub HaveVerdicts : Case → ℕ → List Verdict → Type 0
HaveVerdicts case before verdicts =
    (place : ℕ) (verdict : Verdict) → slice_get verdicts place ≡ Some verdict → HasVerdict case (before + suc place) verdict

-- The verdict on each step, in order, before freshness.
pub record AreFirstVerdicts (case : Case) (verdicts : List Verdict) : Type 0 where
  pub long : length verdicts ≡ length case.steps
  pub each : HaveVerdicts case 0 verdicts

-- The verdict list.
abbrev pub AreVerdicts : Case → List Verdict → Type 0
AreVerdicts case list = (verdicts : List Verdict) × AreFirstVerdicts case verdicts × (list ≡ freshened case.problem.symbols verdicts)

-- the step is wrong or over a limit
abbrev pub is_bad : Verdict → Bool
is_bad Leaf = false
is_bad Conjecture = false
is_bad (Structural map_here) = false
is_bad (Clausal steps) = false
is_bad (Chained chains) = false
is_bad (Composes composed) = false
is_bad (Wrong reason) = true
is_bad (Over limit) = true

-- The step at that place of the list is bad.
abbrev pub IsBadAt : List Verdict → ℕ → Type 0
IsBadAt list place = (verdict : Verdict) × (slice_get list place ≡ Some verdict) × (is_bad verdict ≡ true)

-- The step is the first bad one. Steps are counted from 1.
abbrev pub IsBadFirst : List Verdict → ℕ → Type 0
IsBadFirst list step =
    (place : ℕ) × (step ≡ place + 1) × IsBadAt list place × ((earlier : ℕ) → earlier < place → IsBadAt list earlier → ⊥)

-- The least step that is bad, or none.
abbrev pub IsFirstBad : List Verdict → Option ℕ → Type 0
IsFirstBad list answer = MatchOption answer ((place : ℕ) → IsBadAt list place → ⊥) (IsBadFirst list)
