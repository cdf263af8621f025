-- What walks reach from a step. Only private contracts cite these words.
use Rattle.std.specs.Prelude.{◌≡◌, ℕ, ◌+◌, ◌⊎◌, not, Bool, List, length, count_by, Contains}
use Rattle.derivation_graph.specs.Agendas.{IsMarked}
use Rattle.derivation_graph.specs.Graphs.{HasParent, Walks}

-- The numbers are marked now, and of those that weren't before each is pending, to be visited.
pub record Spreads (numbers : List ℕ) (seen seen' : List Bool) (pending pending' : List ℕ) : Type 0 where
  pub long : length seen' ≡ length seen
  pub alone : (n : ℕ) → IsMarked seen' n → IsMarked seen n ⊎ Contains numbers n
  pub all : (n : ℕ) → Contains numbers n → IsMarked seen' n
  pub kept : (n : ℕ) → IsMarked seen n → IsMarked seen' n
  pub stays : (n : ℕ) → Contains pending n → Contains pending' n
  pub added : (n : ℕ) → IsMarked seen' n → IsMarked seen n ⊎ Contains pending' n
  pub known : (n : ℕ) → Contains pending' n → Contains pending n ⊎ IsMarked seen' n
  pub left : count_by not seen' + length pending' ≡ count_by not seen + length pending

-- Walks lead from the step to what is marked, its parents are marked, and so are those of each marked step that
-- isn't pending.
pub record Reaches (rows : List (List ℕ)) (step : ℕ) (seen : List Bool) (pending : List ℕ) : Type 0 where
  pub long : length seen ≡ length rows + 1
  pub walks : (n : ℕ) → IsMarked seen n → Walks rows step n
  pub begun : (n : ℕ) → HasParent rows step n → IsMarked seen n
  pub known : (n : ℕ) → Contains pending n → IsMarked seen n
  pub done : (n parent : ℕ) → IsMarked seen n → HasParent rows n parent → Contains pending n ⊎ IsMarked seen parent
