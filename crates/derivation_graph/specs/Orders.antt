-- The order in which steps come after their parents.
use Rattle.std.specs.Prelude.{ℕ, suc, ◌<◌, nat_eq, if◌then◌else◌, List, [], ◌∷◌, ◌++◌, Contains}
use Rattle.derivation_graph.specs.Graphs.{IsStep, HasParent}

-- The step is not listed yet, and its parents are.
pub record IsReady (rows : List (List ℕ)) (listed : List ℕ) (step : ℕ) : Type 0 where
  pub stands : IsStep rows step
  pub fresh : Contains listed step → ⊥
  pub after : (parent : ℕ) → HasParent rows step parent → Contains listed parent

-- No step of a smaller number is ready.
abbrev pub IsLeastReady : List (List ℕ) → List ℕ → ℕ → Type 0
IsLeastReady rows listed step = IsReady rows listed step × ((other : ℕ) → other < step → IsReady rows listed other → ⊥)

-- After the listed steps come these, at each turn the least that is ready.
abbrev pub ComeAfter : List (List ℕ) → List ℕ → List ℕ → Type 0
ComeAfter rows listed [] = Unit {0}
ComeAfter rows listed (step ∷ rest) = IsLeastReady rows listed step × ComeAfter rows (listed ++ step ∷ []) rest

-- Every step is listed.
abbrev pub ListsAll : List (List ℕ) → List ℕ → Type 0
ListsAll rows list = (step : ℕ) → IsStep rows step → Contains list step

-- Every step is listed, at each turn the least that is ready: so each once, and after its parents.
abbrev pub IsOrderOf : List (List ℕ) → List ℕ → Type 0
IsOrderOf rows list = ComeAfter rows [] list × ListsAll rows list

-- There is an order of the steps.
abbrev pub HasOrder : List (List ℕ) → Type 0
HasOrder rows = (list : List ℕ) × IsOrderOf rows list

-- the place of a step in the list, or the list's length where it isn't there
abbrev pub place_in : List ℕ → ℕ → ℕ
place_in [] step = 0
place_in (first ∷ rest) step = if nat_eq first step then 0 else suc (place_in rest step)
