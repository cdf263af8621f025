-- The signature and the rules that commands give.
use Rattle.std.specs.Prelude.{ℕ, List, [], ◌∷◌, ◌≡◌, ◌⊎◌}
use Rattle.lp_term.specs.LambdaPi.{Term, substitute}
use Rattle.lp_term.specs.Typing.{Declaration, Declares}
use Rattle.lp_term.specs.View.{term_of, fill}
use Rattle.lp_term.specs.Prelude.{prelude}
use Rattle.lp_term.specs.declared.command.Command.{Command}
use Rattle.lp_term.specs.declared.command.Command.TheVariants.{Constant, Symbol, Define, Rule}

abbrev pub declaration : List ℕ → Term → Declaration
declaration s a = record { name = s; of = a }

-- a command's declaration before those of the others; a rule declares nothing
abbrev pub with_declaration : Command → List Declaration → List Declaration
with_declaration (Constant name type) others = declaration name (term_of type) ∷ others
with_declaration (Symbol name type) others = declaration name (term_of type) ∷ others
with_declaration (Define name type body) others = declaration name (term_of type) ∷ others
with_declaration (Rule left right) others = others

-- the signature that a list of commands declares
abbrev pub declarations : List Command → List Declaration
declarations [] = []
declarations (command ∷ rest) = with_declaration command (declarations rest)

-- the two terms are the sides of the command's rule, with some terms for its pattern variables
abbrev pub IsInstanceOf : Command → Term → Term → Type 0
IsInstanceOf (Constant name type) t u = ⊥
IsInstanceOf (Symbol name type) t u = ⊥
IsInstanceOf (Define name type body) t u = ⊥
IsInstanceOf (Rule left right) t u = (s : List ℕ → Term) × (t ≡ fill s (term_of left)) × (u ≡ fill s (term_of right))

-- the same for one of the commands
abbrev pub IsInstanceIn : List Command → Term → Term → Type 0
IsInstanceIn [] t u = ⊥
IsInstanceIn (command ∷ rest) t u = IsInstanceOf command t u ⊎ IsInstanceIn rest t u

-- the signature of the printed prelude
abbrev pub prelude_declarations : List Declaration
prelude_declarations = declarations prelude

-- the signature has the prelude, and no declared type has a free variable
pub record Extends (sig : List Declaration) : Type 0 where
  pub declares : (s : List ℕ) (a : Term) → Declares prelude_declarations s a → Declares sig s a
  pub closed : (s : List ℕ) (a : Term) → Declares sig s a → (f : ℕ → Term) → substitute f a ≡ a
