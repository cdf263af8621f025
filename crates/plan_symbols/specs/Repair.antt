-- Terms without the applications that are not over a list of symbols.
use Rattle.std.specs.Prelude.{ℕ, ◌&&◌, List, length, map, cond}
use Rattle.dk_syntax.specs.WellFormed.{fits_symbol}
use Rattle.dk_syntax.specs.declared.clause.Literal.{Literal}
use Rattle.dk_syntax.specs.declared.symbol.Kind.TheVariants.{Function}
use Rattle.dk_syntax.specs.declared.symbol.SymKey.{SymKey}
use Rattle.dk_syntax.specs.declared.term.Term.{Term, Term-F, fold-Term}
use Rattle.dk_syntax.specs.declared.term.Term.TheOpen as term
use Rattle.dk_syntax.specs.declared.term.Term.TheVariants.{Any, App, Var}
use Rattle.step_check.specs.Steps.{stands_in}

-- the application with the arguments, or Any where its symbol is not listed or has another arity or kind
abbrev pub repaired_app : List SymKey → SymKey → List Term → Term
repaired_app symbols f args = cond (stands_in symbols f && fits_symbol Function f (length args)) (App f args) Any

-- a repaired term from its arguments, repaired
abbrev pub repaired_at : List SymKey → Term-F Term → Term
repaired_at symbols (term.Var k) = Var k
repaired_at symbols (term.App f args) = repaired_app symbols f args
repaired_at symbols term.Any = Any

-- the term with Any for each application that is not over the symbols
abbrev pub repaired : List SymKey → Term → Term
repaired symbols = fold-Term Term (repaired_at symbols)

-- the literal with its arguments repaired
abbrev pub repaired_literal : List SymKey → Literal → Literal
repaired_literal symbols literal = record literal { args = map (repaired symbols) literal.args }

-- the substitution with each of its terms repaired
abbrev pub repairing : List SymKey → (ℕ → Term) → ℕ → Term
repairing symbols u k = repaired symbols (u k)
