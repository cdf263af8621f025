-- The program's terms and formulas as those of the theory.
use Rattle.std.specs.Prelude.{List, [], ◌∷◌, map}
use Rattle.dk_syntax.specs.declared.Formula.{Formula, Formula-F, fold-Formula}
use Rattle.dk_syntax.specs.declared.Formula.TheOpen as formula
use Rattle.dk_syntax.specs.declared.SymKey.{SymKey}
use Rattle.dk_syntax.specs.declared.Term.{Term, Term-F, fold-Term}
use Rattle.dk_syntax.specs.declared.Term.TheOpen as term
use Rattle.lp_term.specs.Identifiers.{identifier_of}
use Rattle.lp_term.specs.Names.{any_name}
use Rattle.lp_term.specs.Problems.{symbol_type_of}
use Rattle.lp_term.specs.Typing.{Declaration, Declares}
use Rattle.lp_term.specs.View.{term_of}
use Rattle.nd_term.specs.Formulas.{Formula as TheoryFormula, FormulaTerm, applied, atomic, bound, conjunction, disjunction, equivalence, existential, falsity, implication, negation, symbol, truth, universal}

-- a term with the arguments one after the other
abbrev pub applied_each : FormulaTerm → List FormulaTerm → FormulaTerm
applied_each t [] = t
applied_each t (u ∷ rest) = applied_each (applied t u) rest

abbrev pub theory_term_at : Term-F FormulaTerm → FormulaTerm
theory_term_at (term.Var number) = bound number
theory_term_at (term.App head args) = applied_each (symbol (identifier_of head)) args
theory_term_at term.Any = symbol any_name

-- the same term, whose symbols are known by their identifiers
abbrev pub theory_term : Term → FormulaTerm
theory_term = fold-Term FormulaTerm theory_term_at

abbrev pub theory_formula_at : Formula-F TheoryFormula → TheoryFormula
theory_formula_at formula.True = truth
theory_formula_at formula.False = falsity
theory_formula_at (formula.Atom predicate args) = atomic (applied_each (symbol (identifier_of predicate)) (map theory_term args))
theory_formula_at (formula.Not a) = negation a
theory_formula_at (formula.And a b) = conjunction a b
theory_formula_at (formula.Or a b) = disjunction a b
theory_formula_at (formula.Imp a b) = implication a b
theory_formula_at (formula.Iff a b) = equivalence a b
theory_formula_at (formula.All a) = universal a
theory_formula_at (formula.Ex a) = existential a

-- the same formula
abbrev pub theory_formula : Formula → TheoryFormula
theory_formula = fold-Formula TheoryFormula theory_formula_at

-- the signature declares the symbol's identifier with the symbol's type
abbrev pub DeclaresSymbol : List Declaration → SymKey → Type 0
DeclaresSymbol sig one = Declares sig (identifier_of one) (term_of (symbol_type_of one))
