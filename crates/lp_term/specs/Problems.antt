-- What a development for a problem declares.
use Rattle.std.specs.Prelude.{◌≡◌, ℕ, zero, suc, List, [], ◌∷◌, ◌++◌, map, Some, None, codes}
use Rattle.std.specs.declared.option.Option.{Option}
use Rattle.dk_syntax.specs.declared.Kind.{Kind}
use Rattle.dk_syntax.specs.declared.Kind.TheVariants.{Function, Predicate}
use Rattle.dk_syntax.specs.declared.Named.{Named}
use Rattle.dk_syntax.specs.declared.Problem.{Problem}
use Rattle.dk_syntax.specs.declared.SymKey.{SymKey}
use Rattle.lp_term.specs.Identifiers.{identifier_of}
use Rattle.lp_term.specs.Prelude.{prelude}
use Rattle.lp_term.specs.Terms.{individuals, propositions, arrow_of, proof_of}
use Rattle.lp_term.specs.Translation.{translated}
use Rattle.lp_term.specs.declared.command.Command.{Command}
use Rattle.lp_term.specs.declared.command.Command.TheVariants.{Constant, Define}
use Rattle.lp_term.specs.declared.command.Dev.{Dev}
use Rattle.lp_term.specs.declared.lp.Lp.{Lp}
use Rattle.lp_term.specs.declared.lp.Lp.TheVariants.{Sym}

-- a function gives an individual, a predicate a proposition
abbrev pub result_of : Kind → Lp
result_of Function = individuals
result_of Predicate = propositions

-- `I → .. → I → r`, one `I` an argument
abbrev pub function_type : ℕ → Lp → Lp
function_type zero r = r
function_type (suc arity) r = arrow_of individuals (function_type arity r)

-- the type of a symbol
abbrev pub symbol_type_of : SymKey → Lp
symbol_type_of symbol = function_type symbol.arity (result_of symbol.kind)

-- `constant symbol NAME : I → .. → I` or `constant symbol NAME : I → .. → Prop`
abbrev pub constant_of : SymKey → Command
constant_of symbol = Constant (identifier_of symbol) (symbol_type_of symbol)

-- one constant a symbol
abbrev pub constants_of : List SymKey → List Command
constants_of symbols = map constant_of symbols

-- `Prf H1 → .. → Prf Hn → c`
abbrev pub implication_of : List Named → Lp → Lp
implication_of [] c = c
implication_of (hypothesis ∷ rest) c = arrow_of (proof_of (translated hypothesis.formula)) (implication_of rest c)

-- the conjecture's proposition, or `bot` where there is none
abbrev pub conclusion_of : Option Named → Lp
conclusion_of None = Sym (codes "bot")
conclusion_of (Some conjecture) = translated conjecture.formula

-- `Prf H1 → .. → Prf Hn → Prf C`, over all hypotheses
abbrev pub goal_type_of : Problem → Lp
goal_type_of problem = implication_of problem.hyps (proof_of (conclusion_of problem.conjecture))

-- The development is for the problem: it is the prelude, one constant for each symbol of the problem in
-- order, and one definition `goal`, which has the problem's type.
pub record IsFor (problem : Problem) (development : Dev) : Type 0 where
  pub body : Lp
  pub commands : development.commands ≡ prelude ++ constants_of problem.symbols ++ Define (codes "goal") (goal_type_of problem) body ∷ []
