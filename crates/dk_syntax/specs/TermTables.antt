-- Tables of ground terms that share their subterms, as callers see them: the list of the terms.
use Rattle.std.specs.Prelude.{◌≡◌, ℕ, ◌<◌, List, [], ◌∷◌, ◌++◌, length, get_or, ◌⊎◌}
use Rattle.std.specs.List.{All, Contains}
use Rattle.dk_syntax.specs.WellFormed.{IsGround}
use Rattle.dk_syntax.specs.declared.symbol.SymKey.{SymKey}
use Rattle.dk_syntax.specs.declared.term.Term.{Term}
use Rattle.dk_syntax.specs.declared.term.Term.TheVariants.{Any, App}

-- the term of a number, or Any where the table has none
abbrev pub term_of : List Term → ℕ → Term
term_of table n = get_or table n Any

-- no term stands at two places
abbrev pub IsDistinct : List Term → Type 0
IsDistinct table = (i j : ℕ) → i < length table → j < length table → term_of table i ≡ term_of table j → i ≡ j

-- each argument of a term stands before it
abbrev pub HasArgumentsBefore : List Term → Type 0
HasArgumentsBefore table = (i : ℕ) (f : SymKey) (args : List Term) → i < length table → term_of table i ≡ App f args
    → All (λ arg. (j : ℕ) × (j < i) × (term_of table j ≡ arg)) args

-- distinct ground terms, each after its arguments
pub record IsTermTable (table : List Term) : Type 0 where
  pub distinct : IsDistinct table
  pub ground : (i : ℕ) → i < length table → IsGround (term_of table i)
  pub arguments_before : HasArgumentsBefore table

-- the number of the term: the old one where the term stands in the table, else the length, and the term comes to the end
abbrev pub IsNumbered : List Term → Term → List Term → ℕ → Type 0
IsNumbered old t new n =
    ((new ≡ old) × (n < length old) × (term_of old n ≡ t)) ⊎ ((¬ Contains old t) × (new ≡ old ++ t ∷ []) × (n ≡ length old))
