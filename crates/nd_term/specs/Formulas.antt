-- Formulas, and ground terms in which eigenvariables stand for Skolem terms.
use Rattle.std.specs.Prelude.{ℕ, zero, suc, Bool, List}
use Rattle.lp_term.specs.Names.{any_name}

-- a term of a formula: a bound variable, a symbol, or a term with one more argument
pub data FormulaTerm : Type 0 where
  bound : ℕ → FormulaTerm
  symbol : List ℕ → FormulaTerm
  applied : FormulaTerm → FormulaTerm → FormulaTerm

-- a ground term after replacement: the k-th eigenvariable, a symbol, or a term with one more argument
pub data GroundTerm : Type 0 where
  eigenvariable : ℕ → GroundTerm
  ground_symbol : List ℕ → GroundTerm
  ground_applied : GroundTerm → GroundTerm → GroundTerm

pub data Formula : Type 0 where
  truth : Formula
  falsity : Formula
  atomic : FormulaTerm → Formula
  negation : Formula → Formula
  conjunction : Formula → Formula → Formula
  disjunction : Formula → Formula → Formula
  implication : Formula → Formula → Formula
  equivalence : Formula → Formula → Formula
  universal : Formula → Formula
  existential : Formula → Formula

-- a ground literal
pub record Literal : Type 0 where
  pub positive : Bool
  pub atom : GroundTerm

abbrev pub literal : Bool → GroundTerm → Literal
literal b a = record { positive = b; atom = a }

-- a ground term for each variable
abbrev pub ground_by : (ℕ → GroundTerm) → FormulaTerm → GroundTerm
ground_by s (bound n) = s n
ground_by s (symbol x) = ground_symbol x
ground_by s (applied t u) = ground_applied (ground_by s t) (ground_by s u)

-- u for variable 0, and each other variable as before
abbrev pub extended : GroundTerm → (ℕ → GroundTerm) → ℕ → GroundTerm
extended u s zero = u
extended u s (suc n) = s n

-- nothing is put in yet
abbrev pub unassigned : ℕ → GroundTerm
unassigned n = ground_symbol any_name
