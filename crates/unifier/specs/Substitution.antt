-- Lists that stand for substitutions, which are functions from variables to terms.
use Rattle.std.specs.Prelude.{ℕ, ◌≡◌, ◌<◌, ◌≤◌, false, List, get_or, length, Option, Some, None}
use Rattle.std.specs.Option.{unwrap_or}
use Rattle.dk_syntax.specs.Terms.{Below, has_variable, substituted}
use Rattle.dk_syntax.specs.declared.Term.{Term}
use Rattle.dk_syntax.specs.declared.Term.TheVariants.{Var}

-- the term that the list has for a variable, or the variable where it has none
abbrev pub value : List (Option Term) → ℕ → Term
value s k = unwrap_or (get_or s k None) (Var k)

-- the variables below `frozen` stand for themselves
abbrev pub Fixes : ℕ → (ℕ → Term) → Type 0
Fixes frozen r = (k : ℕ) → k < frozen → r k ≡ Var k

-- r gives a bound variable what it gives the variable's term
abbrev pub Refines : List (Option Term) → (ℕ → Term) → Type 0
Refines s r = (k : ℕ) → r k ≡ substituted r (value s k)

-- the same substitutions refine both lists
abbrev pub SameInstances : List (Option Term) → List (Option Term) → Type 0
SameInstances s n = (r : ℕ → Term) → (Refines s r → Refines n r) × (Refines n r → Refines s r)

-- no bound variable stands in the term
abbrev pub IsSettledTerm : List (Option Term) → Term → Type 0
IsSettledTerm s t = (j : ℕ) (u : Term) → get_or s j None ≡ Some u → has_variable j t ≡ false

-- no bound variable stands in a term of the list
abbrev pub NoneBoundStands : List (Option Term) → Type 0
NoneBoundStands s = (k : ℕ) (t : Term) → get_or s k None ≡ Some t → IsSettledTerm s t

-- only variables from `frozen` on are bound, no bound variable stands in a term, and each variable is below the length
pub record Settled (frozen : ℕ) (s : List (Option Term)) : Type 0 where
  pub unfrozen : (k : ℕ) (t : Term) → get_or s k None ≡ Some t → frozen ≤ k
  pub apart : NoneBoundStands s
  pub below : (k : ℕ) (t : Term) → get_or s k None ≡ Some t → Below (length s) t
