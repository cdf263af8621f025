-- A parallel step is a row of single steps.
use Rattle.lp_term.specs.Conversion.{Convertible}
use Rattle.lp_term.specs.LambdaPi.{Term, app, lam, pi}
use Rattle.lp_exact.specs.Reduction.{StepsTo, step_beta, step_rule, step_function, step_argument, step_annotation, step_body, step_domain, step_codomain, ReducesTo, no_step, step_then}
use Rattle.lp_exact.specs.ParallelReduction.{ParallelSteps, no_parallel, parallel_then, RootStep, root_beta, root_rule, ParallelStep, parallel_type, parallel_kind, parallel_con, parallel_pat, parallel_var, parallel_app, parallel_lam, parallel_pi, parallel_reduced}
use Rattle.lp_exact.proofs.ConfluenceLaws.{church_rosser}

pub reduces_append : {t u v : Term} → ReducesTo t u → ReducesTo u v → ReducesTo t v
reduces_append (no_step t) k = k
reduces_append (step_then h l) k = step_then h (reduces_append l k)

-- rows of single steps under the constructors
function_reduces : {t t' : Term} (u : Term) → ReducesTo t t' → ReducesTo (app t u) (app t' u)
function_reduces u (no_step t) = no_step (app t u)
function_reduces u (step_then h l) = step_then (step_function u h) (function_reduces u l)

argument_reduces : {u u' : Term} (t : Term) → ReducesTo u u' → ReducesTo (app t u) (app t u')
argument_reduces t (no_step u) = no_step (app t u)
argument_reduces t (step_then h l) = step_then (step_argument t h) (argument_reduces t l)

app_reduces : {t t' u u' : Term} → ReducesTo t t' → ReducesTo u u' → ReducesTo (app t u) (app t' u')
app_reduces {t' = t'} {u = u} h k = reduces_append (function_reduces u h) (argument_reduces t' k)

lam_reduces : {a a' t t' : Term} → ReducesTo a a' → ReducesTo t t' → ReducesTo (lam a t) (lam a' t')
lam_reduces (no_step a) (no_step t) = no_step (lam a t)
lam_reduces (no_step a) (step_then h l) = step_then (step_body a h) (lam_reduces (no_step a) l)
lam_reduces {t = t} (step_then h l) k = step_then (step_annotation t h) (lam_reduces l k)

pi_reduces : {a a' t t' : Term} → ReducesTo a a' → ReducesTo t t' → ReducesTo (pi a t) (pi a' t')
pi_reduces (no_step a) (no_step t) = no_step (pi a t)
pi_reduces (no_step a) (step_then h l) = step_then (step_codomain a h) (pi_reduces (no_step a) l)
pi_reduces {t = t} (step_then h l) k = step_then (step_domain t h) (pi_reduces l k)

root_step : {t u : Term} → RootStep t u → StepsTo t u
root_step (root_beta a t u) = step_beta a t u
root_step (root_rule r) = step_rule r

-- a parallel step is a row of single ones
pub parallel_reduces : {t u : Term} → ParallelStep t u → ReducesTo t u
parallel_reduces parallel_type = no_step _
parallel_reduces parallel_kind = no_step _
parallel_reduces (parallel_con s) = no_step _
parallel_reduces (parallel_pat x) = no_step _
parallel_reduces (parallel_var n) = no_step _
parallel_reduces (parallel_app h k) = app_reduces (parallel_reduces h) (parallel_reduces k)
parallel_reduces (parallel_lam h k) = lam_reduces (parallel_reduces h) (parallel_reduces k)
parallel_reduces (parallel_pi h k) = pi_reduces (parallel_reduces h) (parallel_reduces k)
parallel_reduces (parallel_reduced h k r) = reduces_append (app_reduces (parallel_reduces h) (parallel_reduces k)) (step_then (root_step r) (no_step _))

pub parallels_reduce : {t u : Term} → ParallelSteps t u → ReducesTo t u
parallels_reduce (no_parallel t) = no_step t
parallels_reduce (parallel_then h l) = reduces_append (parallel_reduces h) (parallels_reduce l)

-- convertible terms have a common reduct
pub common_reduct : {t u : Term} → Convertible t u → (w : Term) × ReducesTo t w × ReducesTo u w
common_reduct h = let r = church_rosser h in (r.0, parallels_reduce r.1, parallels_reduce r.2)
