-- Trees as the crates above rely on them: closed, well-formed, and without Any. Three properties, each by itself.
use Rattle.std.specs.Prelude.{ℕ, ◌+◌, nat_eq, nat_lt, Bool, true, false, ◌&&◌, List, length, map, IsTrue}
pub use Rattle.dk_syntax.specs.Lists.{all_true}
use Rattle.dk_syntax.specs.Symbols.{same_kind}
use Rattle.dk_syntax.specs.declared.clause.Clause.{Clause}
use Rattle.dk_syntax.specs.declared.clause.Literal.{Literal}
use Rattle.dk_syntax.specs.declared.formula.Formula.{Formula, Formula-F, fold-Formula}
use Rattle.dk_syntax.specs.declared.formula.Formula.TheOpen as formula
use Rattle.dk_syntax.specs.declared.symbol.Kind.{Kind}
use Rattle.dk_syntax.specs.declared.symbol.Kind.TheVariants.{Function, Predicate}
use Rattle.dk_syntax.specs.declared.symbol.SymKey.{SymKey}
use Rattle.dk_syntax.specs.declared.term.Term.{Term, Term-F, fold-Term}
use Rattle.dk_syntax.specs.declared.term.Term.TheOpen as term

-- ---- closed

-- whether a term's variables are below the number, from the same of its arguments
abbrev pub term_closed_at : ℕ → Term-F Bool → Bool
term_closed_at level (term.Var number) = nat_lt number level
term_closed_at level (term.App symbol args) = all_true args
term_closed_at level term.Any = true

-- each variable of the term is below the number
abbrev pub term_closed_under : ℕ → Term → Bool
term_closed_under level = fold-Term Bool (term_closed_at level)

-- the term has no variable
abbrev pub IsGround : Term → Type 0
IsGround t = IsTrue (term_closed_under 0 t)

-- whether a formula is closed under so many quantifiers, from the same of its parts
abbrev pub closed_at : Formula-F (ℕ → Bool) → ℕ → Bool
closed_at formula.True level = true
closed_at formula.False level = true
closed_at (formula.Atom symbol args) level = all_true (map (term_closed_under level) args)
closed_at (formula.Not a) level = a level
closed_at (formula.And a b) level = a level && b level
closed_at (formula.Or a b) level = a level && b level
closed_at (formula.Imp a b) level = a level && b level
closed_at (formula.Iff a b) level = a level && b level
closed_at (formula.All a) level = a (level + 1)
closed_at (formula.Ex a) level = a (level + 1)

-- each variable belongs to a quantifier of the formula or to one of so many around it
abbrev pub closed_under : Formula → ℕ → Bool
closed_under = fold-Formula (ℕ → Bool) closed_at

-- each variable belongs to a quantifier of the formula
abbrev pub IsClosed : Formula → Type 0
IsClosed f = IsTrue (closed_under f 0)

-- each variable of the literal is below the number
abbrev pub literal_closed_under : ℕ → Literal → Bool
literal_closed_under level literal = all_true (map (term_closed_under level) literal.args)

-- each variable of the clause is below its number of variables
abbrev pub closed_clause : Clause → Bool
closed_clause clause = all_true (map (literal_closed_under clause.vars) clause.lits)

-- ---- well-formed

-- a symbol of this kind, with as many arguments as its arity
abbrev pub fits_symbol : Kind → SymKey → ℕ → Bool
fits_symbol kind symbol count = same_kind symbol.kind kind && nat_eq symbol.arity count

-- whether a term is well-formed, from the same of its arguments
abbrev pub well_formed_term_at : Term-F Bool → Bool
well_formed_term_at (term.Var number) = true
well_formed_term_at (term.App symbol args) = fits_symbol Function symbol (length args) && all_true args
well_formed_term_at term.Any = true

-- the term's symbols are functions with as many arguments as their arity
abbrev pub well_formed_term : Term → Bool
well_formed_term = fold-Term Bool well_formed_term_at

-- the symbol is a predicate with as many arguments as its arity, and the arguments are well-formed
abbrev pub well_formed_atom : SymKey → List Term → Bool
well_formed_atom symbol args = fits_symbol Predicate symbol (length args) && all_true (map well_formed_term args)

-- whether a formula is well-formed, from the same of its parts
abbrev pub well_formed_at : Formula-F Bool → Bool
well_formed_at formula.True = true
well_formed_at formula.False = true
well_formed_at (formula.Atom symbol args) = well_formed_atom symbol args
well_formed_at (formula.Not a) = a
well_formed_at (formula.And a b) = a && b
well_formed_at (formula.Or a b) = a && b
well_formed_at (formula.Imp a b) = a && b
well_formed_at (formula.Iff a b) = a && b
well_formed_at (formula.All a) = a
well_formed_at (formula.Ex a) = a

-- each symbol has as many arguments as its arity, functions stand in terms and predicates in atoms
abbrev pub well_formed : Formula → Bool
well_formed = fold-Formula Bool well_formed_at

abbrev pub IsWellFormed : Formula → Type 0
IsWellFormed f = IsTrue (well_formed f)

-- the literal's atom is well-formed
abbrev pub well_formed_literal : Literal → Bool
well_formed_literal literal = well_formed_atom literal.pred literal.args

-- each literal of the clause is well-formed
abbrev pub well_formed_clause : Clause → Bool
well_formed_clause clause = all_true (map well_formed_literal clause.lits)

-- ---- without Any

-- whether Any stands nowhere in a term, from the same of its arguments
abbrev pub term_has_no_any_at : Term-F Bool → Bool
term_has_no_any_at (term.Var number) = true
term_has_no_any_at (term.App symbol args) = all_true args
term_has_no_any_at term.Any = false

-- Any stands nowhere in the term
abbrev pub term_has_no_any : Term → Bool
term_has_no_any = fold-Term Bool term_has_no_any_at

-- whether Any stands nowhere in a formula, from the same of its parts
abbrev pub has_no_any_at : Formula-F Bool → Bool
has_no_any_at formula.True = true
has_no_any_at formula.False = true
has_no_any_at (formula.Atom symbol args) = all_true (map term_has_no_any args)
has_no_any_at (formula.Not a) = a
has_no_any_at (formula.And a b) = a && b
has_no_any_at (formula.Or a b) = a && b
has_no_any_at (formula.Imp a b) = a && b
has_no_any_at (formula.Iff a b) = a && b
has_no_any_at (formula.All a) = a
has_no_any_at (formula.Ex a) = a

-- Any stands nowhere in the formula, as in each that is read from text
abbrev pub has_no_any : Formula → Bool
has_no_any = fold-Formula Bool has_no_any_at
