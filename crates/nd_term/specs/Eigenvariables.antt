-- Eigenvariables, each with the formula of its origin.
use Rattle.std.specs.Prelude.{ℕ, suc, Bool, true, false, ◌≡◌}
use Rattle.lp_term.specs.LambdaPi.{Term, lam, under_binder}
use Rattle.lp_term.specs.Connectives.{all, ex, imp, individuals, neg}
use Rattle.nd_term.specs.Formulas.{Formula, GroundTerm, eigenvariable, extended}
use Rattle.nd_term.specs.Translation.{translated, translated_at, translated_ground}

-- a needed Skolem term by its origin formula: a positive ex or a negative all over the body,
-- with ground terms put in for the body's other variables
pub record Eigenvariable : Type 0 where
  pub positive : Bool
  pub body : Formula
  pub puts : ℕ → GroundTerm

-- the body of the origin formula, in the context with the quantifier's variable
abbrev pub origin_body : (ℕ → Term) → Eigenvariable → Term
origin_body x o = translated (under_binder (λ n. translated_ground x (o.puts n))) o.body

-- what the variable after an eigenvariable proves: b is the origin formula's body, a the same at the eigenvariable
abbrev pub witness_at : Bool → Term → Term → Term
witness_at true b a = imp (ex (lam individuals b)) a
witness_at false b a = imp (neg (all (lam individuals b))) (neg a)

abbrev pub witness_formula : (ℕ → Term) → ℕ → Eigenvariable → Term
witness_formula x k o = witness_at o.positive (origin_body x o) (translated_at x (extended (eigenvariable k) o.puts) o.body)

-- a body under a substitution is the body of the origin formula after replacement
abbrev pub IsOrigin : Eigenvariable → Formula → (ℕ → GroundTerm) → Type 0
IsOrigin o f s = (x : ℕ → Term) → translated (under_binder (λ n. translated_ground x (s n))) f ≡ origin_body x o

-- variable 0 doesn't occur: its value makes no difference
abbrev pub Unused : Formula → Type 0
Unused f = (v w : ℕ → Term) → ((n : ℕ) → v (suc n) ≡ w (suc n)) → translated v f ≡ translated w f
