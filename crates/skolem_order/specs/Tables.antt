-- Tables in which terms are put with all that stands in them. Only private contracts cite this.
use Rattle.std.specs.Prelude.{◌≡◌, ◌<◌, ℕ, List, [], ◌∷◌, ◌++◌, length, map}
use Rattle.std.specs.List.{All, Contains}
use Rattle.dk_syntax.specs.TermTables.{term_of}
use Rattle.dk_syntax.specs.Terms.{substituted}
use Rattle.dk_syntax.specs.declared.Term.{Term}
use Rattle.dk_syntax.specs.declared.Term.TheVariants.{Any}
use Rattle.skolem_order.specs.Order.{IsPart}

-- the term with Any for its variables
unfoldable pub grounded : Term → Term
grounded t = substituted (λ k. Any) t

-- the terms stand in the new table, which begins with the old one, and what came to it is a part of one of them
pub record HasEntered (old terms new : List Term) : Type 0 where
  pub added : List Term
  pub grown : new ≡ old ++ added
  pub all : (t : Term) → Contains terms t → Contains new (grounded t)
  pub only : (s : Term) → Contains added s → (t : Term) × Contains terms t × IsPart s (grounded t)

-- these are numbers of the terms
pub record AreNumbers (table terms : List Term) (numbers : List ℕ) : Type 0 where
  pub within : All (λ n. n < length table) numbers
  pub are : map (term_of table) numbers ≡ terms

-- the term was put in under the number
abbrev pub IsEntered : List Term → Term → List Term → ℕ → Type 0
IsEntered old t new n = HasEntered old (t ∷ []) new × (n < length new) × (term_of new n ≡ grounded t)

-- the terms were put in under the numbers
abbrev pub AreEntered : List Term → List Term → List Term → List ℕ → Type 0
AreEntered old terms new numbers = HasEntered old terms new × AreNumbers new (map grounded terms) numbers
