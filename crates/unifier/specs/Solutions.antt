-- Solutions of equations.
use Rattle.std.specs.Prelude.{ℕ, ◌≡◌, List}
use Rattle.std.specs.List.{All}
use Rattle.dk_syntax.specs.declared.Term.{Term}
use Rattle.unifier.specs.Substitution.{Fixes}
use Rattle.dk_syntax.specs.Terms.{substituted, Below}

-- r makes the two terms equal
abbrev pub Equal : (ℕ → Term) → Term × Term → Type 0
Equal r equation = substituted r equation.0 ≡ substituted r equation.1

-- r makes the terms of each equation equal, and the variables below `frozen` stand for themselves
abbrev pub Solves : ℕ → List (Term × Term) → (ℕ → Term) → Type 0
Solves frozen equations r = Fixes frozen r × All (Equal r) equations

-- all variables of the equations are below n
abbrev pub EquationsBelow : ℕ → List (Term × Term) → Type 0
EquationsBelow n equations = All (λ equation. Below n equation.0 × Below n equation.1) equations
