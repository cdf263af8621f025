-- What a problem is in the theory, whatever its formulas.
use Rattle.std.specs.Prelude.{List, [], ◌≡◌, ◌++◌}
use Rattle.dk_syntax.specs.Lists.{Every}
use Rattle.dk_syntax.specs.Problems.{HasItsSymbols, formulas_of}
use Rattle.dk_syntax.specs.WellFormed.{IsClosed, IsWellFormed}
use Rattle.dk_syntax.specs.declared.Problem.{Problem}
use Rattle.dk_syntax.specs.declared.SymKey.{SymKey}
use Rattle.lp_term.specs.LambdaPi.{type}
use Rattle.lp_term.specs.Prelude.{prelude}
use Rattle.lp_term.specs.Problems.{constants_of, goal_type_of}
use Rattle.lp_term.specs.Scope.{Declared, VariablesBelow}
use Rattle.lp_term.specs.Signature.{declarations}
use Rattle.lp_term.specs.Typing.{HasType}
use Rattle.lp_term.specs.View.{term_of}
use Rattle.nd_term.specs.Symbols.{FormulaOver}
use Rattle.assemble.specs.Body.{goal_type}
use Rattle.assemble.specs.Problem.{problem_signature, theory_conclusion, theory_formulas}

-- the signature that the prelude and the constants of any symbols declare
abbrev pub SignatureIsTheory : Type 0
SignatureIsTheory = (symbols : List SymKey) → declarations (prelude ++ constants_of symbols) ≡ problem_signature symbols

-- the declared type of goal, where no formula of the problem has a free variable
abbrev pub GoalTypeIsTheory : Type 0
GoalTypeIsTheory = (problem : Problem) → Every IsClosed (formulas_of problem)
    → term_of (goal_type_of problem) ≡ goal_type (theory_formulas problem.hyps) (theory_conclusion problem.conjecture)

-- the problem has its symbols, and its formulas are closed and well-formed
pub record IsProper (problem : Problem) : Type 0 where
  pub closed : Every IsClosed (formulas_of problem)
  pub formed : Every IsWellFormed (formulas_of problem)
  pub symbols : HasItsSymbols problem

-- the formulas of such a problem are over its symbols
abbrev pub FormulasAreOver : Type 0
FormulasAreOver = (problem : Problem) → IsProper problem
    → Every (λ f. FormulaOver (problem_signature problem.symbols) f) (theory_formulas problem.hyps) × FormulaOver (problem_signature problem.symbols) (theory_conclusion problem.conjecture)

-- the declared type is a type in the signature of the commands before goal
abbrev pub GoalIsSorted : Type 0
GoalIsSorted = (problem : Problem) → IsProper problem → HasType (declarations (prelude ++ constants_of problem.symbols)) [] (term_of (goal_type_of problem)) type

-- no variable is free in it, and each symbol in it is declared by these commands
abbrev pub GoalIsClosed : Type 0
GoalIsClosed = (problem : Problem) → IsProper problem
    → VariablesBelow 0 (term_of (goal_type_of problem)) × Declared (declarations (prelude ++ constants_of problem.symbols)) (term_of (goal_type_of problem))
