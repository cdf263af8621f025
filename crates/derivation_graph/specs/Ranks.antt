-- What ranks of steps say of cycles. Only private contracts cite these words.
use Rattle.std.specs.Prelude.{ℕ, ◌<◌, ◌≤◌, List, get_or}
use Rattle.derivation_graph.specs.Graphs.{HasParent}

-- the rank of a step, 0 where it has none
abbrev pub rank_in : List ℕ → ℕ → ℕ
rank_in ranks step = get_or ranks step 0

-- Each parent of the step has at least its rank.
abbrev pub NeverFallsFrom : List (List ℕ) → List ℕ → ℕ → Type 0
NeverFallsFrom rows ranks step = (parent : ℕ) → HasParent rows step parent → rank_in ranks step ≤ rank_in ranks parent

-- Each parent of any step has at least its rank.
abbrev pub NeverFalls : List (List ℕ) → List ℕ → Type 0
NeverFalls rows ranks = (step : ℕ) → NeverFallsFrom rows ranks step

-- Each parent of the step has a greater rank.
abbrev pub RisesFrom : List (List ℕ) → List ℕ → ℕ → Type 0
RisesFrom rows ranks step = (parent : ℕ) → HasParent rows step parent → rank_in ranks step < rank_in ranks parent
