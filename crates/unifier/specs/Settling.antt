-- What is known while bindings are settled, for the contracts of the parts.
use Rattle.std.specs.Prelude.{ℕ, ◌≡◌, List, get_or, Option, Some, None}
use Rattle.dk_syntax.specs.declared.Term.{Term}
use Rattle.unifier.specs.Outcomes.{IsSettledBy}

-- the kept terms are those of the most general substitution
abbrev pub Known : List (Option Term) → List (Option Term) → Type 0
Known s known = (j : ℕ) (t : Term) → get_or known j None ≡ Some t → (m : ℕ → Term) → IsSettledBy s m → t ≡ m j

-- a bound variable's entry in the settled list
abbrev pub settled_entry : (ℕ → Term) → ℕ → Option Term → Option Term
settled_entry m k (Some t) = Some (m k)
settled_entry m k None = None
