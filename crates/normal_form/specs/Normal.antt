-- The signed normal form of a formula: each line is a known equivalence.
use Rattle.std.specs.Prelude.{ℕ, ◌+◌, Bool, true, false, not, if◌then◌else◌, List}
use Rattle.dk_syntax.specs.declared.Formula.{Formula, Formula-F, fold-Formula}
use Rattle.dk_syntax.specs.declared.Formula.TheOpen as formula
use Rattle.dk_syntax.specs.declared.Literal.{Literal}
use Rattle.dk_syntax.specs.declared.SymKey.{SymKey}
use Rattle.dk_syntax.specs.declared.Term.{Term}
use Rattle.normal_form.specs.Lowered.{lowered}
use Rattle.normal_form.specs.Occurrence.{in_form}
use Rattle.normal_form.specs.declared.form.Nf.{Nf, Nf-F, fold-Nf}
use Rattle.normal_form.specs.declared.form.Nf.TheOpen as form
use Rattle.normal_form.specs.declared.form.Nf.TheVariants.{All, And, Ex, False, Lit, Or, True}

-- the universal of the form, or the form alone where the variable doesn't occur
abbrev pub all_of : Nf → Nf
all_of a = if in_form a 0 then All a else lowered a 0

-- the existential of the form, or the form alone where the variable doesn't occur
abbrev pub ex_of : Nf → Nf
ex_of a = if in_form a 0 then Ex a else lowered a 0

-- the atom with its sign
abbrev pub literal_of : Bool → SymKey → List Term → Literal
literal_of sign symbol args = record { positive = sign; pred = symbol; args = args }

-- the two normal forms of a formula, true for the positive one, from those of its parts
abbrev pub normal_at : Formula-F (Bool → Nf) → Bool → Nf
normal_at (formula.Atom symbol args) sign = Lit (literal_of sign symbol args)
normal_at formula.True true = True
normal_at formula.True false = False
normal_at formula.False true = False
normal_at formula.False false = True
normal_at (formula.Not a) sign = a (not sign)
normal_at (formula.And a b) true = And (a true) (b true)
normal_at (formula.And a b) false = Or (a false) (b false)
normal_at (formula.Or a b) true = Or (a true) (b true)
normal_at (formula.Or a b) false = And (a false) (b false)
normal_at (formula.Imp a b) true = Or (a false) (b true)
normal_at (formula.Imp a b) false = And (a true) (b false)
normal_at (formula.Iff a b) true = And (Or (a false) (b true)) (Or (b false) (a true))
normal_at (formula.Iff a b) false = And (Or (a true) (b true)) (Or (a false) (b false))
normal_at (formula.All a) true = all_of (a true)
normal_at (formula.All a) false = ex_of (a false)
normal_at (formula.Ex a) true = ex_of (a true)
normal_at (formula.Ex a) false = all_of (a false)

-- the normal form of the formula with the sign
abbrev pub normal_of : Formula → Bool → Nf
normal_of = fold-Formula (Bool → Nf) normal_at

-- the nodes of a form, from those of its parts
abbrev pub nodes_at : Nf-F ℕ → ℕ
nodes_at form.True = 1
nodes_at form.False = 1
nodes_at (form.Lit literal) = 1
nodes_at (form.And a b) = 1 + a + b
nodes_at (form.Or a b) = 1 + a + b
nodes_at (form.All a) = 1 + a
nodes_at (form.Ex a) = 1 + a

-- the constructors of the form; terms aren't counted
abbrev pub nodes_of : Nf → ℕ
nodes_of = fold-Nf ℕ nodes_at
