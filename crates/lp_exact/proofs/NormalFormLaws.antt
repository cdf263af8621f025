-- A single step is a parallel one, and normal forms are unique.
use Rattle.std.proofs.Common.{◌≡◌, refl, sym, ◌∙◌}
use Rattle.lp_term.specs.Connectives.{proof_of}
use Rattle.lp_term.specs.Conversion.{Rewrites, Convertible, conv_sym, conv_trans}
use Rattle.lp_term.specs.LambdaPi.{Term, lam}
use Rattle.lp_exact.specs.Reduction.{StepsTo, step_beta, step_rule, step_function, step_argument, step_annotation, step_body, step_domain, step_codomain, ReducesTo, no_step, step_then, HasNormalForm}
use Rattle.lp_exact.specs.ParallelReduction.{ParallelSteps, no_parallel, parallel_then, root_beta, root_rule, ParallelStep, parallel_app, parallel_lam, parallel_pi, parallel_reduced}
use Rattle.lp_exact.proofs.ConfluenceLaws.{confluence, parallels_convert}
use Rattle.lp_exact.proofs.ParallelLaws.{parallel_refl, rule_left_side}
use Rattle.lp_exact.proofs.StepLaws.{common_reduct, parallels_reduce}

rule_parallel : {t u : Term} → Rewrites t u → ParallelStep t u
rule_parallel {t = t} {u = u} r =
    let i = rule_left_side r in
    let l : Rewrites (proof_of i.0) u = rw (← i.1) r in
    rw (i.1) (parallel_reduced (parallel_refl _) (parallel_refl i.0) (root_rule l))

-- a single step is a parallel one
step_parallel : {t u : Term} → StepsTo t u → ParallelStep t u
step_parallel (step_beta a t u) = parallel_reduced (parallel_refl (lam a t)) (parallel_refl u) (root_beta a t u)
step_parallel (step_rule r) = rule_parallel r
step_parallel (step_function u h) = parallel_app (step_parallel h) (parallel_refl u)
step_parallel (step_argument t h) = parallel_app (parallel_refl t) (step_parallel h)
step_parallel (step_annotation t h) = parallel_lam (step_parallel h) (parallel_refl t)
step_parallel (step_body a h) = parallel_lam (parallel_refl a) (step_parallel h)
step_parallel (step_domain b h) = parallel_pi (step_parallel h) (parallel_refl b)
step_parallel (step_codomain a h) = parallel_pi (parallel_refl a) (step_parallel h)

pub reduces_parallels : {t u : Term} → ReducesTo t u → ParallelSteps t u
reduces_parallels (no_step t) = no_parallel t
reduces_parallels (step_then h l) = parallel_then (step_parallel h) (reduces_parallels l)

-- a normal form is reached from each convertible term
pub normal_form_unique : {a b m n : Term} → Convertible a b → HasNormalForm a m → HasNormalForm b n → m ≡ n
normal_form_unique e h k =
    let r = common_reduct (conv_trans (conv_sym (parallels_convert (reduces_parallels h.reached))) (conv_trans e (parallels_convert (reduces_parallels k.reached)))) in
    stays h.ends r.1 ∙ sym (stays k.ends r.2)
  where
    stays : {t w : Term} → ((u : Term) → StepsTo t u → ⊥) → ReducesTo t w → t ≡ w
    stays f (no_step t) = refl
    stays f (step_then {u = u} h l) = absurd (f u h)

-- two reducts of one term meet
pub reducts_meet : {t u v : Term} → ReducesTo t u → ReducesTo t v → (w : Term) × ReducesTo u w × ReducesTo v w
reducts_meet h k =
    let r = confluence (reduces_parallels h) (reduces_parallels k) in
    (r.0, parallels_reduce r.1, parallels_reduce r.2)
