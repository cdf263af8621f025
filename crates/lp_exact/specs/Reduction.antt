-- Reduction by beta and the nine rules, and normal forms.
use Rattle.lp_term.specs.Conversion.{Rewrites}
use Rattle.lp_term.specs.LambdaPi.{Term, app, lam, pi, instantiate}

-- one step, anywhere in the term
pub data StepsTo : Term → Term → Type 0 where
  step_beta : (a t u : Term) → StepsTo (app (lam a t) u) (instantiate t u)
  step_rule : {t u : Term} → Rewrites t u → StepsTo t u
  step_function : {t t' : Term} (u : Term) → StepsTo t t' → StepsTo (app t u) (app t' u)
  step_argument : (t : Term) {u u' : Term} → StepsTo u u' → StepsTo (app t u) (app t u')
  step_annotation : {a a' : Term} (t : Term) → StepsTo a a' → StepsTo (lam a t) (lam a' t)
  step_body : (a : Term) {t t' : Term} → StepsTo t t' → StepsTo (lam a t) (lam a t')
  step_domain : {a a' : Term} (b : Term) → StepsTo a a' → StepsTo (pi a b) (pi a' b)
  step_codomain : (a : Term) {b b' : Term} → StepsTo b b' → StepsTo (pi a b) (pi a b')

-- any number of steps
pub data ReducesTo : Term → Term → Type 0 where
  no_step : (t : Term) → ReducesTo t t
  step_then : {t u v : Term} → StepsTo t u → ReducesTo u v → ReducesTo t v

-- the first term reduces to the second, from which no step leads on
pub record HasNormalForm (t n : Term) : Type 0 where
  pub reached : ReducesTo t n
  pub ends : (u : Term) → StepsTo n u → ⊥
