-- The formulas and the symbols of a problem.
use Rattle.std.specs.Prelude.{◌≡◌, List, [], ◌∷◌, ◌++◌, map, Some, None}
use Rattle.std.specs.declared.option.Option.{Option}
use Rattle.dk_syntax.specs.declared.formula.Formula.{Formula}
use Rattle.dk_syntax.specs.declared.problem.Named.{Named}
use Rattle.dk_syntax.specs.declared.problem.Problem.{Problem}
use Rattle.dk_syntax.specs.declared.symbol.SymKey.{SymKey}
use Rattle.dk_syntax.specs.Symbols.{formula_occurrences, joined, with_symbols}

-- the formula that may be there
abbrev pub formula_of : Option Named → List Formula
formula_of None = []
formula_of (Some named) = named.formula ∷ []

-- the hypotheses' formulas, and then the conjecture's
abbrev pub formulas_of : Problem → List Formula
formulas_of problem = map (λ named. named.formula) problem.hyps ++ formula_of problem.conjecture

-- each symbol of the formulas once, by first occurrence
abbrev pub symbols_of_formulas : List Formula → List SymKey
symbols_of_formulas formulas = with_symbols [] (joined (map formula_occurrences formulas))

-- the problem's symbols are those of its formulas
abbrev pub HasItsSymbols : Problem → Type 0
HasItsSymbols problem = problem.symbols ≡ symbols_of_formulas (formulas_of problem)
