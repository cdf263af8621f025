-- Composed images: all existentials replaced by new symbols, and clauses that follow from the image.
use Rattle.std.specs.Prelude.{◌≡◌, ℕ, ◌<◌, ◌≤◌, List, [], ◌∷◌, length, map, get_or, true, Option, Some, MatchOption}
use Rattle.std.specs.List.{All}
use Rattle.dk_syntax.specs.declared.Kind.TheVariants.{Function}
use Rattle.dk_syntax.specs.declared.SymKey.{SymKey}
use Rattle.normal_form.specs.ClauseLists.{clause_rows, literal_count}
use Rattle.normal_form.specs.Forms.{exs, form_of}
use Rattle.normal_form.specs.declared.clause_list.ClauseList.{ClauseList}
use Rattle.normal_form.specs.declared.clause_list.ClauseRow.{ClauseRow}
use Rattle.normal_form.specs.declared.form.Nf.{Nf}
use Rattle.step_clause.specs.Candidates.{IsListBefore}
use Rattle.step_clause.specs.Justifications.{IsJustification}
use Rattle.step_clause.specs.declared.justification.Justification.{Justification}
use Rattle.step_compose.specs.FullImages.{full_image, full_map, nameless}
use Rattle.step_compose.specs.declared.composed.Composed.{Composed}
use Rattle.step_skolem.specs.Images.{are_distinct}
use Rattle.step_skolem.specs.declared.map.SkEntry.{SkEntry}

-- each clause of the rows has its justification from the lists
abbrev pub AreJustified : List ClauseRow → List ClauseList → List Justification → Type 0
AreJustified [] lists [] = Unit {0}
AreJustified [] lists (step ∷ steps) = ⊥
AreJustified (row ∷ rows) lists [] = ⊥
AreJustified (row ∷ rows) lists (step ∷ steps) = IsJustification row.clause lists (Some step) × AreJustified rows lists steps

-- the symbols at these places among the new ones
abbrev pub symbols_at : List SymKey → List ℕ → List SymKey
symbols_at aliens places = map (λ place. get_or aliens place nameless) places

-- the symbol of an existential, by its number; a symbol without a name stands for none
abbrev pub symbol_in : List SymKey → ℕ → SymKey
symbol_in symbols e = get_or symbols e nameless

-- the symbol of an existential: the one at its place among the new ones
abbrev pub symbol_by : List SymKey → List ℕ → ℕ → SymKey
symbol_by aliens places = symbol_in (symbols_at aliens places)

-- the symbol has as many arguments as it is given
abbrev pub HasItsArity : SkEntry → Type 0
HasItsArity one = one.symbol.arity ≡ length one.args

-- Each existential has another of the new symbols, by its place among them; the symbol is a function's, and it has as many
-- arguments as universals stand around. Each target follows from the clause list of the image.
pub record Composes (n : Nf) (aliens : List SymKey) (targets : List ClauseRow) (places : List ℕ) (composed : Composed) : Type 0 where
  pub functions : All (λ symbol. symbol.kind ≡ Function) aliens
  pub exactly : length aliens ≡ exs (form_of n)
  pub each : length places ≡ exs (form_of n)
  pub within : All (λ place. place < length aliens) places
  pub once : are_distinct places ≡ true
  pub map_is : composed.map.entries ≡ full_map (symbol_by aliens places) n
  pub arities : All HasItsArity composed.map.entries
  pub image : composed.image.rows ≡ clause_rows (full_image (symbol_by aliens places) n)
  pub steps : AreJustified targets (composed.image ∷ []) composed.steps

-- no map composes
abbrev pub NoneComposes : Nf → List SymKey → List ClauseRow → Type 0
NoneComposes n aliens targets = (places : List ℕ) (composed : Composed) → Composes n aliens targets places composed → ⊥

-- the least by the places of its symbols
abbrev pub IsLeastComposed : Nf → List SymKey → List ClauseRow → Composed → Type 0
IsLeastComposed n aliens targets composed =
    (places : List ℕ) × Composes n aliens targets places composed
    × ((other : List ℕ) (that : Composed) → Composes n aliens targets other that → IsListBefore other places → ⊥)

-- the composed image, or none where no map composes
abbrev pub IsComposedAnswer : Nf → List SymKey → List ClauseRow → Option Composed → Type 0
IsComposedAnswer n aliens targets answer = MatchOption answer (NoneComposes n aliens targets) (IsLeastComposed n aliens targets)

-- the clause list of the form is within its limits
abbrev pub HasShortList : Nf → Type 0
HasShortList n = (length (clause_rows n) ≤ 4096) × (literal_count (clause_rows n) ≤ 65536)

-- the clause list of a full image is within its limits; its sizes don't depend on the symbols
abbrev pub IsListed : Nf → Type 0
IsListed n = HasShortList (full_image (λ e. nameless) n)
