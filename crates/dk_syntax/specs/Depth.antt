-- How deep terms and formulas are.
use Rattle.std.specs.Prelude.{ℕ, ◌+◌, List, [], ◌∷◌, map, max, min}
use Rattle.dk_syntax.specs.declared.formula.Formula.{Formula, Formula-F, fold-Formula}
use Rattle.dk_syntax.specs.declared.formula.Formula.TheOpen as formula
use Rattle.dk_syntax.specs.declared.term.Term.{Term, Term-F, fold-Term}
use Rattle.dk_syntax.specs.declared.term.Term.TheOpen as term

-- the greatest of the numbers, or 0 where there is none
abbrev pub greatest : List ℕ → ℕ
greatest [] = 0
greatest (n ∷ rest) = max n (greatest rest)

-- a term's depth, from the depths of its arguments
abbrev pub term_depth_at : Term-F ℕ → ℕ
term_depth_at (term.Var number) = 1
term_depth_at (term.App symbol args) = 1 + greatest args
term_depth_at term.Any = 1

-- a variable, a constant and Any have depth 1, and f(t..) has one more than its deepest argument
abbrev pub term_depth_of : Term → ℕ
term_depth_of = fold-Term ℕ term_depth_at

-- a formula's depth, from the depths of its parts
abbrev pub formula_depth_at : Formula-F ℕ → ℕ
formula_depth_at formula.True = 1
formula_depth_at formula.False = 1
formula_depth_at (formula.Atom symbol args) = 1 + greatest (map term_depth_of args)
formula_depth_at (formula.Not a) = 1 + a
formula_depth_at (formula.And a b) = 1 + max a b
formula_depth_at (formula.Or a b) = 1 + max a b
formula_depth_at (formula.Imp a b) = 1 + max a b
formula_depth_at (formula.Iff a b) = 1 + max a b
formula_depth_at (formula.All a) = 1 + a
formula_depth_at (formula.Ex a) = 1 + a

-- an atom is as deep as a term of its arguments, and each connective or quantifier adds one to its deeper side
abbrev pub formula_depth : Formula → ℕ
formula_depth = fold-Formula ℕ formula_depth_at

-- the number, or the greatest `u64` where it is greater
abbrev pub capped : ℕ → ℕ
capped n = min n 18446744073709551615
