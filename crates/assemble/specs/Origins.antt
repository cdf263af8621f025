-- Eigenvariables in turn.
use Rattle.std.specs.Prelude.{ℕ, List, ◌∷◌, ◌++◌, ◌≡◌}
use Rattle.lp_term.specs.Connectives.{individuals}
use Rattle.lp_term.specs.Typing.{Declaration}
use Rattle.dk_syntax.specs.Lists.{Entry, Every}
use Rattle.nd_term.specs.Formulas.{GroundTerm, eigenvariable, ground_applied, ground_symbol}
use Rattle.nd_term.specs.Symbols.{FormulaOver, GroundOver}
use Rattle.nd_term.specs.Eigenvariables.{Eigenvariable}

-- a ground term's eigenvariables are among these
pub data Among (es : List Eigenvariable) : GroundTerm → Type 0 where
  among_eigenvariable : {k : ℕ} {o : Eigenvariable} → Entry es k o → Among es (eigenvariable k)
  among_symbol : (x : List ℕ) → Among es (ground_symbol x)
  among_applied : {t u : GroundTerm} → Among es t → Among es u → Among es (ground_applied t u)

-- each origin formula mentions only the eigenvariables before it, and declared symbols
pub record InTurn (sig : List Declaration) (es : List Eigenvariable) : Type 0 where
  pub earlier : (front back : List Eigenvariable) (o : Eigenvariable) → es ≡ front ++ o ∷ back → (n : ℕ) → Among front (o.puts n)
  pub grounds : Every (λ o. (n : ℕ) → GroundOver sig individuals 0 (o.puts n)) es
  pub bodies : Every (λ o. FormulaOver sig o.body) es
