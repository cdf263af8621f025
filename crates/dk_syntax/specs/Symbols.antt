-- The symbols of terms and formulas, by first occurrence.
use Rattle.std.specs.Prelude.{Bool, true, false, ◌&&◌, if◌then◌else◌, nat_eq, List, [], ◌∷◌, ◌++◌, map}
use Rattle.std.specs.Cmp.Lexicographic.{pointwise}
use Rattle.std.specs.List.{list_any}
use Rattle.dk_syntax.specs.declared.formula.Formula.{Formula, Formula-F, fold-Formula}
use Rattle.dk_syntax.specs.declared.formula.Formula.TheOpen as formula
use Rattle.dk_syntax.specs.declared.symbol.Kind.{Kind}
use Rattle.dk_syntax.specs.declared.symbol.Kind.TheVariants.{Function, Predicate}
use Rattle.dk_syntax.specs.declared.symbol.SymKey.{SymKey}
use Rattle.dk_syntax.specs.declared.term.Term.{Term, Term-F, fold-Term}
use Rattle.dk_syntax.specs.declared.term.Term.TheOpen as term

-- the lists, one after another
abbrev pub joined : {A : Type 0} → List (List A) → List A
joined [] = []
joined (xs ∷ rest) = xs ++ joined rest

-- a term's occurrences of symbols, from those of its arguments
abbrev pub term_occurrences_at : Term-F (List SymKey) → List SymKey
term_occurrences_at (term.Var number) = []
term_occurrences_at (term.App symbol args) = symbol ∷ joined args
term_occurrences_at term.Any = []

-- each occurrence of a symbol, from left to right, a symbol before its arguments
abbrev pub term_occurrences : Term → List SymKey
term_occurrences = fold-Term (List SymKey) term_occurrences_at

-- a formula's occurrences of symbols, from those of its parts
abbrev pub formula_occurrences_at : Formula-F (List SymKey) → List SymKey
formula_occurrences_at formula.True = []
formula_occurrences_at formula.False = []
formula_occurrences_at (formula.Atom symbol args) = symbol ∷ joined (map term_occurrences args)
formula_occurrences_at (formula.Not a) = a
formula_occurrences_at (formula.And a b) = a ++ b
formula_occurrences_at (formula.Or a b) = a ++ b
formula_occurrences_at (formula.Imp a b) = a ++ b
formula_occurrences_at (formula.Iff a b) = a ++ b
formula_occurrences_at (formula.All a) = a
formula_occurrences_at (formula.Ex a) = a

-- each occurrence of a symbol, from left to right, a symbol before its arguments
abbrev pub formula_occurrences : Formula → List SymKey
formula_occurrences = fold-Formula (List SymKey) formula_occurrences_at

abbrev pub same_kind : Kind → Kind → Bool
same_kind Function Function = true
same_kind Function Predicate = false
same_kind Predicate Function = false
same_kind Predicate Predicate = true

-- the two symbols are one
abbrev pub same_symbol : SymKey → SymKey → Bool
same_symbol a b = pointwise nat_eq a.name b.name && nat_eq a.arity b.arity && same_kind a.kind b.kind

-- the list with the symbol at its end, unless the symbol is there
abbrev pub with_symbol : List SymKey → SymKey → List SymKey
with_symbol seen symbol = if list_any (same_symbol symbol) seen then seen else seen ++ symbol ∷ []

-- the list with each of the symbols, one by one
abbrev pub with_symbols : List SymKey → List SymKey → List SymKey
with_symbols seen [] = seen
with_symbols seen (symbol ∷ rest) = with_symbols (with_symbol seen symbol) rest

-- each symbol of the formula once, by first occurrence
abbrev pub first_symbols : Formula → List SymKey
first_symbols f = with_symbols [] (formula_occurrences f)
