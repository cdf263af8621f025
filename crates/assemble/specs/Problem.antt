-- The signature of a development, and a problem in the theory.
use Rattle.std.specs.Prelude.{ℕ, Bool, true, false, List, [], ◌∷◌, ◌++◌, map, Option, Some, None}
use Rattle.dk_syntax.specs.declared.Kind.{Kind}
use Rattle.dk_syntax.specs.declared.Kind.TheVariants.{Function, Predicate}
use Rattle.dk_syntax.specs.declared.Named.{Named}
use Rattle.dk_syntax.specs.declared.SymKey.{SymKey}
use Rattle.lp_term.specs.Identifiers.{identifier_of}
use Rattle.lp_term.specs.LambdaPi.{Term}
use Rattle.lp_term.specs.Connectives.{individuals, propositions}
use Rattle.lp_term.specs.Typing.{Declaration}
use Rattle.lp_term.specs.Signature.{declaration, prelude_declarations}
use Rattle.nd_term.specs.Formulas.{Formula, falsity}
use Rattle.nd_term.specs.Symbols.{function_type}
use Rattle.nd_term.specs.Views.{theory_formula}

-- a symbol of the problem
pub record ProblemSymbol : Type 0 where
  pub name : List ℕ
  pub arity : ℕ
  pub answers : Bool

-- what a symbol of the problem gives: a formula, or an individual
abbrev pub result_type : Bool → Term
result_type true = propositions
result_type false = individuals

-- `NAME : I → .. → I`, or `NAME : I → .. → Prop`
abbrev pub declaration_of : ProblemSymbol → Declaration
declaration_of k = declaration k.name (function_type k.arity (result_type k.answers))

-- one declaration a symbol
abbrev pub declarations_of : List ProblemSymbol → List Declaration
declarations_of [] = []
declarations_of (k ∷ ks) = declaration_of k ∷ declarations_of ks

-- the prelude, and a constant for each symbol of the problem
abbrev pub signature_of : List ProblemSymbol → List Declaration
signature_of ks = prelude_declarations ++ declarations_of ks

-- ---- the program's problems

-- a predicate gives a proposition, a function an individual
abbrev pub gives_proposition : Kind → Bool
gives_proposition Function = false
gives_proposition Predicate = true

-- the same symbol
abbrev pub theory_symbol : SymKey → ProblemSymbol
theory_symbol one = record { name = identifier_of one; arity = one.arity; answers = gives_proposition one.kind }

-- the prelude, and a constant for each of the symbols
abbrev pub problem_signature : List SymKey → List Declaration
problem_signature symbols = signature_of (map theory_symbol symbols)

-- the conjecture's formula, or falsity where there is none
abbrev pub theory_conclusion : Option Named → Formula
theory_conclusion None = falsity
theory_conclusion (Some conjecture) = theory_formula conjecture.formula

-- the formulas of hypotheses
abbrev pub theory_formulas : List Named → List Formula
theory_formulas hypotheses = map (λ hypothesis. theory_formula hypothesis.formula) hypotheses
