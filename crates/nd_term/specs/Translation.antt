-- Translations of formulas and of ground terms.
use Rattle.std.specs.Prelude.{ℕ, Bool, true, false, not}
use Rattle.lp_term.specs.Names.{any_name}
use Rattle.lp_term.specs.LambdaPi.{Term, app, con, lam, under_binder}
use Rattle.lp_term.specs.Connectives.{all, and, bot, ex, iff, imp, individuals, neg, or, proof_of, top}
use Rattle.nd_term.specs.Formulas.{Formula, FormulaTerm, GroundTerm, Literal, applied, atomic, bound, conjunction, disjunction, eigenvariable, equivalence, existential, falsity, ground_applied, ground_symbol, implication, negation, symbol, truth, universal}

-- the translation of a term, where v gives the variables
abbrev pub translated_term : (ℕ → Term) → FormulaTerm → Term
translated_term v (bound n) = v n
translated_term v (symbol x) = con x
translated_term v (applied t u) = app (translated_term v t) (translated_term v u)

-- the translation of a ground term, where x gives the eigenvariables
abbrev pub translated_ground : (ℕ → Term) → GroundTerm → Term
translated_ground x (eigenvariable k) = x k
translated_ground x (ground_symbol s) = con s
translated_ground x (ground_applied t u) = app (translated_ground x t) (translated_ground x u)

abbrev pub translated : (ℕ → Term) → Formula → Term
translated v truth = top
translated v falsity = bot
translated v (atomic t) = translated_term v t
translated v (negation f) = neg (translated v f)
translated v (conjunction f h) = and (translated v f) (translated v h)
translated v (disjunction f h) = or (translated v f) (translated v h)
translated v (implication f h) = imp (translated v f) (translated v h)
translated v (equivalence f h) = iff (translated v f) (translated v h)
translated v (universal f) = all (lam individuals (translated (under_binder v) f))
translated v (existential f) = ex (lam individuals (translated (under_binder v) f))

-- a formula's translation after replacement
abbrev pub translated_at : (ℕ → Term) → (ℕ → GroundTerm) → Formula → Term
translated_at x s f = translated (λ n. translated_ground x (s n)) f

-- a closed formula's translation
abbrev pub sentence : Formula → Term
sentence f = translated (λ n. con any_name) f

-- a formula that is asserted, or denied
abbrev pub signed : Bool → Term → Term
signed true p = p
signed false p = neg p

-- the type of the variable for a literal
abbrev pub literal_type : (ℕ → Term) → Literal → Term
literal_type x l = proof_of (signed (not l.positive) (translated_ground x l.atom))
