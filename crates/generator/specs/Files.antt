-- The texts of the family's problems and of their traces, line by line.
use Rattle.std.specs.Prelude.{ℕ, zero, suc, ◌+◌, List, [], ◌++◌, codes, decimal}

-- ---- the problem

-- ![X]:(pI(X)=>?[Y]:(r(X,Y)&pJ(Y))) with J one greater than I
abbrev pub formula_text : ℕ → List ℕ
formula_text i =
    codes "![X]:(p" ++ decimal i ++ codes "(X)=>?[Y]:(r(X,Y)&p" ++ decimal (i + 1)
    ++ codes "(Y)))"

abbrev pub next_front : ℕ → List ℕ
next_front i = codes "fof(next" ++ decimal i ++ codes ",axiom," ++ formula_text i

-- fof(goal,conjecture,?[X]:pN(X)
abbrev pub goal_front : ℕ → List ℕ
goal_front n = codes "fof(goal,conjecture,?[X]:p" ++ decimal n ++ codes "(X)"

abbrev pub axiom_line : ℕ → List ℕ
axiom_line i = next_front i ++ codes ").\n"

abbrev pub conjecture_line : ℕ → List ℕ
conjecture_line n = goal_front n ++ codes ").\n"

-- a line for each number below
abbrev pub axiom_lines : ℕ → List ℕ
axiom_lines zero = []
axiom_lines (suc i) = axiom_lines i ++ axiom_line i

abbrev pub problem_text : ℕ → List ℕ
problem_text n = codes "fof(base,axiom,p0(c)).\n" ++ axiom_lines n ++ conjecture_line n

-- ---- the trace

abbrev pub leaf_line : ℕ → List ℕ
leaf_line i = next_front i ++ codes ",file(g,next" ++ decimal i ++ codes ")).\n"

abbrev pub leaf_lines : ℕ → List ℕ
leaf_lines zero = []
leaf_lines (suc i) = leaf_lines i ++ leaf_line i

-- ![X]:(~pI(X)|(r(X,sI(X))&pJ(sI(X)))), where sI is the Skolem symbol
abbrev pub image_text : ℕ → List ℕ
image_text i =
    codes "![X]:(~p" ++ decimal i ++ codes "(X)|(r(X,s" ++ decimal i
    ++ codes "(X))&p" ++ decimal (i + 1) ++ codes "(s" ++ decimal i ++ codes "(X))))"

abbrev pub skolem_line : ℕ → List ℕ
skolem_line i =
    codes "fof(sk" ++ decimal i ++ codes ",plain," ++ image_text i
    ++ codes ",inference(k,[status(esa)],[next" ++ decimal i ++ codes "])).\n"

abbrev pub skolem_lines : ℕ → List ℕ
skolem_lines zero = []
skolem_lines (suc i) = skolem_lines i ++ skolem_line i

-- c, s0(c), s1(s0(c)), ..
abbrev pub term_text : ℕ → List ℕ
term_text zero = codes "c"
term_text (suc i) = codes "s" ++ decimal i ++ codes "(" ++ term_text i ++ codes ")"

-- what that many axioms lead to: `base` itself, or the step of that number
abbrev pub before : ℕ → List ℕ
before zero = codes "base"
before (suc i) = codes "d" ++ decimal (suc i)

abbrev pub parents_text : ℕ → List ℕ
parents_text i =
    codes "),inference(r,[status(thm)],[" ++ before i ++ codes ",sk" ++ decimal i
    ++ codes "])).\n"

-- cnf(dJ,plain,pJ(term),inference(r,[status(thm)],[before,skI])). with J one greater than I
abbrev pub step_line : ℕ → List ℕ
step_line i =
    codes "cnf(d" ++ decimal (i + 1) ++ codes ",plain,p" ++ decimal (i + 1) ++ codes "("
    ++ term_text (i + 1) ++ parents_text i

abbrev pub step_lines : ℕ → List ℕ
step_lines zero = []
step_lines (suc i) = step_lines i ++ step_line i

abbrev pub last_line : ℕ → List ℕ
last_line n =
    codes "cnf(end,plain,$false,inference(r,[status(thm)],[" ++ before n ++ codes ",neg])).\n"

abbrev pub negation_line : ℕ → List ℕ
negation_line n =
    codes "fof(neg,negated_conjecture,![X]:~p" ++ decimal n
    ++ codes "(X),inference(n,[status(cth)],[goal])).\n"

-- the conjecture as a leaf, its negation, and the contradiction
abbrev pub end_lines : ℕ → List ℕ
end_lines n = goal_front n ++ codes ",file(g,goal)).\n" ++ negation_line n ++ last_line n

abbrev pub trace_text : ℕ → List ℕ
trace_text n =
    codes "fof(base,axiom,p0(c),file(g,base)).\n" ++ leaf_lines n ++ skolem_lines n
    ++ step_lines n ++ end_lines n
