-- Origins of Skolem symbols, and origin formulas of ground Skolem terms.
use Rattle.std.specs.Prelude.{ℕ, ◌+◌, ◌-◌, nat_eq, nat_lt, Bool, true, List, [], map, cond, Option, Some, None, is_some}
use Rattle.std.specs.List.{find}
use Rattle.dk_syntax.specs.Symbols.{same_symbol}
use Rattle.dk_syntax.specs.Terms.{substituted}
use Rattle.dk_syntax.specs.declared.Formula.{Formula, Formula-F, fold-Formula}
use Rattle.dk_syntax.specs.declared.Formula.TheOpen as formula
use Rattle.dk_syntax.specs.declared.Formula.TheVariants.{All, And, Atom, Ex, False, Iff, Imp, Not, Or, True}
use Rattle.dk_syntax.specs.declared.SymKey.{SymKey}
use Rattle.dk_syntax.specs.declared.Term.{Term, Term-F, out-Term}
use Rattle.dk_syntax.specs.declared.Term.TheOpen as term
use Rattle.dk_syntax.specs.declared.Term.TheVariants.{Any, Var}
use Rattle.expansion.specs.Choices.{assigned, skolem_term}
use Rattle.expansion.specs.Rows.{term_at}
use Rattle.skolem_order.specs.SignedForms.{signed_form}
use Rattle.skolem_order.specs.Spots.{Spot, found}
use Rattle.skolem_order.specs.declared.origins.Origin.{Origin}
use Rattle.skolem_order.specs.declared.origins.Signed.{Signed}
use Rattle.skolem_order.specs.declared.walk.Around.{Around}
use Rattle.skolem_order.specs.declared.walk.Around.TheVariants.{Existential, Universal, Vacant}
use Rattle.step_skolem.specs.declared.SkEntry.{SkEntry}

-- ---- Skolem terms

-- the origin of the symbol: the first that is listed for it
abbrev pub origin_for : List Origin → SymKey → Option Origin
origin_for origins symbol = find (λ origin. same_symbol origin.symbol symbol) origins

-- the origin of a term's head
abbrev pub origin_at : List Origin → Term-F Term → Option Origin
origin_at origins (term.Var number) = None
origin_at origins (term.App symbol args) = origin_for origins symbol
origin_at origins term.Any = None

abbrev pub origin_of_term : List Origin → Term → Option Origin
origin_of_term origins t = origin_at origins (out-Term t)

-- the term's head is a Skolem symbol
abbrev pub is_skolem : List Origin → Term → Bool
is_skolem origins t = is_some (origin_of_term origins t)

-- a term's arguments
abbrev pub args_at : Term-F Term → List Term
args_at (term.Var number) = []
args_at (term.App symbol args) = args
args_at term.Any = []

abbrev pub args_of : Term → List Term
args_of t = args_at (out-Term t)

-- ---- the place of an origin

-- the existential that the symbol replaces
abbrev pub spot_of : Origin → Option Spot
spot_of origin = found (signed_form origin.leaf origin.sign) [] 0 0 origin.ex

-- the universals of an entry, or none
abbrev pub args_in : Option SkEntry → List ℕ
args_in None = []
args_in (Some one) = one.args

-- the universals of the first entry for that existential
abbrev pub args_for : List SkEntry → ℕ → List ℕ
args_for entries e = args_in (find (λ one. nat_eq one.ex e) entries)

-- the terms of universals, where the symbol has these arguments
abbrev pub universals_by : Origin → List Term → ℕ → Term
universals_by origin args = assigned (args_for origin.map.entries origin.ex) args

-- ---- origin formulas

-- what stands for a quantifier's variable, by the terms of universals and a map: the Skolem term of an existential
abbrev pub value : (ℕ → Term) → List SkEntry → Around → Term
value v entries (Universal n) = v n
value v entries (Existential e) = skolem_term v entries e
value v entries Vacant = Any

-- the terms for the variables of the quantifiers around the origin, the inmost first, by the symbol's arguments
abbrev pub terms_around : Origin → List Around → List Term → List Term
terms_around origin around args = map (value (universals_by origin args) origin.map.entries) around

-- s for the variables of the quantifiers around, of which so many are inside the formula
abbrev pub outside : (ℕ → Term) → ℕ → ℕ → Term
outside s inside k = cond (nat_lt k inside) (Var k) (s (k - inside))

-- a formula with these ground terms for the variables of the quantifiers around it, from its parts with them
abbrev pub put_at : (ℕ → Term) → Formula-F (ℕ → Formula) → ℕ → Formula
put_at s formula.True inside = True
put_at s formula.False inside = False
put_at s (formula.Atom symbol args) inside = Atom symbol (map (substituted (outside s inside)) args)
put_at s (formula.Not a) inside = Not (a inside)
put_at s (formula.And a b) inside = And (a inside) (b inside)
put_at s (formula.Or a b) inside = Or (a inside) (b inside)
put_at s (formula.Imp a b) inside = Imp (a inside) (b inside)
put_at s (formula.Iff a b) inside = Iff (a inside) (b inside)
put_at s (formula.All a) inside = All (a (inside + 1))
put_at s (formula.Ex a) inside = Ex (a (inside + 1))

-- the formula with the ground term s k for the variable k, where so many quantifiers stand between
abbrev pub put_in : (ℕ → Term) → Formula → ℕ → Formula
put_in s = fold-Formula (ℕ → Formula) (put_at s)

abbrev pub signed : Bool → Formula → Signed
signed positive f = record { positive = positive; formula = f }

-- the existential with these arguments' terms for the variables of the quantifiers around it, or False where there is none
abbrev pub formula_at : Origin → List Term → Option Spot → Signed
formula_at origin args None = signed true False
formula_at origin args (Some x) = signed x.positive (put_in (term_at (terms_around origin x.around args)) x.formula 0)

abbrev pub formula_from : List Term → Option Origin → Signed
formula_from args None = signed true False
formula_from args (Some origin) = formula_at origin args (spot_of origin)

-- The origin formula of a ground Skolem term: the signed subformula of its symbol's leaf at the existential that the symbol
-- replaces, with the arguments for their universals, and for each existential around it its own Skolem term.
abbrev pub origin_formula : List Origin → Term → Signed
origin_formula origins t = formula_from (args_of t) (origin_of_term origins t)
