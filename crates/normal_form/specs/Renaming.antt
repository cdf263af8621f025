-- New numbers for variables.
use Rattle.std.specs.Prelude.{ℕ, ◌+◌, ◌-◌, nat_eq, if◌then◌else◌, List, [], ◌∷◌, get_or, map, reverse}
use Rattle.dk_syntax.specs.declared.Literal.{Literal}
use Rattle.dk_syntax.specs.declared.Term.{Term, Term-F, fold-Term}
use Rattle.dk_syntax.specs.declared.Term.TheOpen as term
use Rattle.dk_syntax.specs.declared.Term.TheVariants.{Any, App, Var}
use Rattle.normal_form.specs.declared.rename.Naming.{Naming}
use Rattle.normal_form.specs.declared.rename.Naming.TheVariants.{Kept, Owner, Place}

-- a term with new numbers, from its arguments with them
abbrev pub renamed_at : (ℕ → ℕ) → Term-F Term → Term
renamed_at new (term.Var n) = Var (new n)
renamed_at new (term.App symbol args) = App symbol args
renamed_at new term.Any = Any

-- the term with a new number for each variable
abbrev pub renamed : (ℕ → ℕ) → Term → Term
renamed new = fold-Term Term (renamed_at new)

-- the literal with a new number for each variable
abbrev pub renamed_literal : (ℕ → ℕ) → Literal → Literal
renamed_literal new literal = record { positive = literal.positive; pred = literal.pred; args = map (renamed new) literal.args }

-- the universal that a variable belongs to, where those around it are listed, the inmost first
abbrev pub owner : List ℕ → ℕ → ℕ
owner around n = get_or around n 0

-- how many numbers stand before the first n, or how many stand there at all
abbrev pub place_of : List ℕ → ℕ → ℕ
place_of [] n = 0
place_of (m ∷ rest) n = if nat_eq m n then 0 else 1 + place_of rest n

-- a variable's number without the quantifiers between it and its own that are dropped, where `dropped` are dropped
-- by now, and for each quantifier around, the inmost first, so many were before its body
abbrev pub kept_number : List ℕ → ℕ → ℕ → ℕ
kept_number around dropped n = n - (dropped - owner around n)

-- the three ways to find a variable's new number
abbrev pub new_number : Naming → ℕ → ℕ
new_number (Owner around) = owner (reverse around.now)
new_number (Place universals) = place_of universals.now.keys
new_number (Kept around dropped) = kept_number (reverse around.now) dropped
