-- Formulas over the symbols of a signature.
use Rattle.std.specs.Prelude.{ℕ, zero, suc, List}
use Rattle.lp_term.specs.LambdaPi.{Term}
use Rattle.lp_term.specs.Connectives.{arrow, individuals, propositions}
use Rattle.lp_term.specs.Typing.{Declaration, Declares}
use Rattle.dk_syntax.specs.Lists.{Every}
use Rattle.nd_term.specs.Formulas.{Literal, Formula, FormulaTerm, GroundTerm, applied, atomic, bound, conjunction, disjunction, eigenvariable, equivalence, existential, falsity, ground_applied, ground_symbol, implication, negation, symbol, truth, universal}

-- I → .. → r
abbrev pub function_type : ℕ → Term → Term
function_type zero r = r
function_type (suc n) r = arrow individuals (function_type n r)

-- a term over the signature's symbols, which lacks n arguments and then has type r
pub data TermOver (sig : List Declaration) : Term → ℕ → FormulaTerm → Type 0 where
  over_bound : (n : ℕ) → TermOver sig individuals 0 (bound n)
  over_symbol : {s : List ℕ} {r : Term} (n : ℕ) → Declares sig s (function_type n r) → TermOver sig r n (symbol s)
  over_applied : {t u : FormulaTerm} {r : Term} {n : ℕ} → TermOver sig r (suc n) t → TermOver sig individuals 0 u → TermOver sig r n (applied t u)

pub data GroundOver (sig : List Declaration) : Term → ℕ → GroundTerm → Type 0 where
  over_eigenvariable : (k : ℕ) → GroundOver sig individuals 0 (eigenvariable k)
  over_ground_symbol : {s : List ℕ} {r : Term} (n : ℕ) → Declares sig s (function_type n r) → GroundOver sig r n (ground_symbol s)
  over_ground_applied : {t u : GroundTerm} {r : Term} {n : ℕ} → GroundOver sig r (suc n) t → GroundOver sig individuals 0 u → GroundOver sig r n (ground_applied t u)

pub data FormulaOver (sig : List Declaration) : Formula → Type 0 where
  over_truth : FormulaOver sig truth
  over_falsity : FormulaOver sig falsity
  over_atomic : {t : FormulaTerm} → TermOver sig propositions 0 t → FormulaOver sig (atomic t)
  over_negation : {f : Formula} → FormulaOver sig f → FormulaOver sig (negation f)
  over_conjunction : {f h : Formula} → FormulaOver sig f → FormulaOver sig h → FormulaOver sig (conjunction f h)
  over_disjunction : {f h : Formula} → FormulaOver sig f → FormulaOver sig h → FormulaOver sig (disjunction f h)
  over_implication : {f h : Formula} → FormulaOver sig f → FormulaOver sig h → FormulaOver sig (implication f h)
  over_equivalence : {f h : Formula} → FormulaOver sig f → FormulaOver sig h → FormulaOver sig (equivalence f h)
  over_universal : {f : Formula} → FormulaOver sig f → FormulaOver sig (universal f)
  over_existential : {f : Formula} → FormulaOver sig f → FormulaOver sig (existential f)

-- a clause over the signature's symbols
abbrev pub ClauseOver : List Declaration → List Literal → Type 0
ClauseOver sig d = Every (λ l. GroundOver sig propositions 0 l.atom) d
