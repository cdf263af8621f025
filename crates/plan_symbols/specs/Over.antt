-- Terms and literals over a list of symbols.
use Rattle.std.specs.Prelude.{◌≡◌, true, List, ◌∷◌, ◌++◌, map, IsTrue}
use Rattle.dk_syntax.specs.Lists.{Every}
use Rattle.dk_syntax.specs.Symbols.{joined, term_occurrences}
use Rattle.dk_syntax.specs.WellFormed.{well_formed_literal, well_formed_term}
use Rattle.dk_syntax.specs.declared.Problem.{Problem}
use Rattle.dk_syntax.specs.declared.clause.Literal.{Literal}
use Rattle.dk_syntax.specs.declared.symbol.SymKey.{SymKey}
use Rattle.dk_syntax.specs.declared.term.Term.{Term}
use Rattle.skolem_order.specs.declared.origins.Origin.{Origin}
use Rattle.step_check.specs.Steps.{stands_in}

-- the symbol is listed
abbrev pub IsListed : List SymKey → SymKey → Type 0
IsListed symbols one = stands_in symbols one ≡ true

-- the term is well-formed, and each symbol in it is listed
pub record IsTermOver (symbols : List SymKey) (t : Term) : Type 0 where
  pub formed : IsTrue (well_formed_term t)
  pub listed : Every (IsListed symbols) (term_occurrences t)

-- each symbol of the literal, its predicate first
abbrev pub literal_occurrences : Literal → List SymKey
literal_occurrences literal = literal.pred ∷ joined (map term_occurrences literal.args)

-- the literal is well-formed, and each symbol in it is listed
pub record IsLiteralOver (symbols : List SymKey) (literal : Literal) : Type 0 where
  pub formed : IsTrue (well_formed_literal literal)
  pub listed : Every (IsListed symbols) (literal_occurrences literal)

-- the problem's symbols, and the Skolem symbols
abbrev pub known_symbols : Problem → List Origin → List SymKey
known_symbols problem origins = problem.symbols ++ map (λ origin. origin.symbol) origins
