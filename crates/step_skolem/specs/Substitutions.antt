-- Substitutions in forms: under quantifiers, and with a term for the variable of one that is left out.
use Rattle.std.specs.Prelude.{ℕ, zero, suc, List, map}
use Rattle.dk_syntax.specs.declared.SymKey.{SymKey}
use Rattle.dk_syntax.specs.declared.Term.{Term}
use Rattle.dk_syntax.specs.declared.Term.TheVariants.{App, Var}
pub use Rattle.dk_syntax.specs.Terms.{instance}
use Rattle.dk_syntax.specs.Terms.{substituted}

-- the term under one quantifier more
abbrev pub shifted : Term → Term
shifted t = substituted (λ k. Var (suc k)) t

-- the substitution under a quantifier that is kept
abbrev pub up : (ℕ → Term) → ℕ → Term
up s zero = Var 0
up s (suc n) = shifted (s n)

-- a term for variable 0, and the others as before
abbrev pub with_term : Term → (ℕ → Term) → ℕ → Term
with_term t s zero = t
with_term t s (suc n) = s n

-- the symbol applied to variables
abbrev pub applied : SymKey → List ℕ → Term
applied symbol variables = App symbol (map Var variables)
