-- The search among the maps, from what is chosen already.
use Rattle.std.specs.Prelude.{◌≡◌, ℕ, ◌<◌, List, [], ◌++◌, length, get_or, slice_get, ◌≤◌, true, false, Option, Some, None, MatchOption}
use Rattle.std.specs.List.{All}
use Rattle.dk_syntax.specs.declared.SymKey.{SymKey}
use Rattle.normal_form.specs.ClauseLists.{has_number}
use Rattle.normal_form.specs.Forms.{form_of, free}
use Rattle.normal_form.specs.declared.clause_list.ClauseList.{ClauseList}
use Rattle.normal_form.specs.declared.clause_list.ClauseRow.{ClauseRow}
use Rattle.normal_form.specs.declared.form.Nf.{Nf}
use Rattle.step_clause.specs.Candidates.{IsListBefore}
use Rattle.step_clause.specs.Justifications.{IsJustification}
use Rattle.step_compose.specs.Composing.{Composes, symbol_in}
use Rattle.step_compose.specs.FullImages.{nameless}
use Rattle.step_compose.specs.declared.composed.Composed.{Composed}
use Rattle.step_skolem.specs.Images.{are_distinct}

-- the clause of a row has no justification from the lists
abbrev pub HasUnjustified : List ClauseRow → List ClauseList → Type 0
HasUnjustified rows lists = (k : ℕ) × (row : ClauseRow) × (slice_get rows k ≡ Some row) × IsJustification row.clause lists None

-- each symbol chosen has as many arguments as universals stand around its existential
abbrev pub HaveArities : List SymKey → List (List ℕ) → List ℕ → Type 0
HaveArities aliens arguments places =
    (k : ℕ) → k < length places → (get_or aliens (get_or places k 0) nameless).arity ≡ length (get_or arguments k [])

-- the places chosen for the first existentials are places of new symbols, each another, and the arities are right
pub record Fits (aliens : List SymKey) (arguments : List (List ℕ)) (places : List ℕ) : Type 0 where
  pub short : length places ≤ length arguments
  pub within : All (λ place. place < length aliens) places
  pub once : are_distinct places ≡ true
  pub arities : HaveArities aliens arguments places

-- the symbol at the place isn't chosen yet, and it has as many arguments as universals stand around the next existential
abbrev pub CanFollow : List SymKey → List (List ℕ) → List ℕ → ℕ → Type 0
CanFollow aliens arguments places place =
    (has_number places place ≡ false) × ((symbol_in aliens place).arity ≡ length (get_or arguments (length places) []))

-- each free variable of the form is below a number
abbrev pub FreeBelow : ℕ → Nf → Type 0
FreeBelow bound n = (k : ℕ) → free k (form_of n) ≡ true → k < bound

-- no map with these places for the first existentials composes
abbrev pub NoneAfter : Nf → List SymKey → List ClauseRow → List ℕ → Type 0
NoneAfter n aliens targets places = (rest : List ℕ) (composed : Composed) → Composes n aliens targets (places ++ rest) composed → ⊥

-- the least of those with these places for the first existentials
abbrev pub IsLeastAfter : Nf → List SymKey → List ClauseRow → List ℕ → Composed → Type 0
IsLeastAfter n aliens targets places composed =
    (rest : List ℕ) × Composes n aliens targets (places ++ rest) composed
    × ((other : List ℕ) (that : Composed) → Composes n aliens targets (places ++ other) that → IsListBefore other rest → ⊥)

-- the least, or none where none composes
abbrev pub IsAnswerAfter : Nf → List SymKey → List ClauseRow → List ℕ → Option Composed → Type 0
IsAnswerAfter n aliens targets places answer = MatchOption answer (NoneAfter n aliens targets places) (IsLeastAfter n aliens targets places)
