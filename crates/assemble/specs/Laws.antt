-- Laws of the whole body.
use Rattle.std.specs.Prelude.{ℕ, List, [], ◌≡◌}
use Rattle.lp_term.specs.Typing.{HasType}
use Rattle.lp_term.specs.Scope.{Declared, VariablesBelow}
use Rattle.dk_syntax.specs.Lists.{Every}
use Rattle.nd_term.specs.Formulas.{Formula}
use Rattle.nd_term.specs.Symbols.{FormulaOver}
use Rattle.nd_term.specs.Eigenvariables.{Eigenvariable}
use Rattle.assemble.specs.Justification.{Instance, Right}
use Rattle.assemble.specs.Origins.{InTurn}
use Rattle.assemble.specs.Body.{goal_body, goal_type, lets}
use Rattle.assemble.specs.Levels.{Inside, Levels, lets_at, place_at}
use Rattle.assemble.specs.Problem.{ProblemSymbol, signature_of}

-- the body of goal has the goal's type, in the signature of the development and the empty context
abbrev pub BodyTyped : Type 0
BodyTyped = (ks : List ProblemSymbol) (es : List Eigenvariable) (hs : List Formula) (c : Formula) (list : List Instance)
    → Every (λ f. FormulaOver (signature_of ks) f) hs → FormulaOver (signature_of ks) c → InTurn (signature_of ks) es → Right (signature_of ks) es hs c list
    → HasType (signature_of ks) [] (goal_body hs es c list) (goal_type hs c)

-- no variable is free in it
abbrev pub BodyClosed : Type 0
BodyClosed = (ks : List ProblemSymbol) (es : List Eigenvariable) (hs : List Formula) (c : Formula) (list : List Instance)
    → Every (λ f. FormulaOver (signature_of ks) f) hs → FormulaOver (signature_of ks) c → InTurn (signature_of ks) es → Right (signature_of ks) es hs c list
    → VariablesBelow 0 (goal_body hs es c list)

-- each symbol in it is one of the prelude's or of the problem's
abbrev pub BodyDeclared : Type 0
BodyDeclared = (ks : List ProblemSymbol) (es : List Eigenvariable) (hs : List Formula) (c : Formula) (list : List Instance)
    → Every (λ f. FormulaOver (signature_of ks) f) hs → FormulaOver (signature_of ks) c → InTurn (signature_of ks) es → Right (signature_of ks) es hs c list
    → Declared (signature_of ks) (goal_body hs es c list)

-- where each variable that a place has bound has a level, the lets are read off the levels
abbrev pub LetsByLevels : Type 0
LetsByLevels = (n : ℕ) (p : Levels) (list : List Instance) (c : Formula) → Inside n p → lets (place_at n p) list c ≡ lets_at n p list c
