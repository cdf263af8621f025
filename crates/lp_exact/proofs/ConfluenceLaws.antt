-- Confluence, the Church-Rosser property, and injectivity of products.
use Rattle.std.proofs.Common.{◌≡◌, refl, sym, ◌∙◌, subst}
use Rattle.lp_term.specs.Connectives.{proof_of}
use Rattle.lp_term.specs.Conversion.{Rewrites, Convertible, conv_refl, conv_sym, conv_trans, conv_app, conv_lam, conv_pi, conv_beta, conv_rule}
use Rattle.lp_term.specs.LambdaPi.{Term, type, kind, con, pat, var, app, lam, pi, instantiate}
use Rattle.lp_term.specs.Names.{prf_name}
use Rattle.lp_exact.specs.ParallelReduction.{RootStep, root_beta, root_rule, ParallelStep, parallel_type, parallel_kind, parallel_con, parallel_pat, parallel_var, parallel_app, parallel_lam, parallel_pi, parallel_reduced, ParallelSteps, no_parallel, parallel_then}
use Rattle.lp_exact.proofs.ParallelLaws.{parallel_refl, diamond, parallel_of_pi, rule_left_side}

pub parallels_append : {t u v : Term} → ParallelSteps t u → ParallelSteps u v → ParallelSteps t v
parallels_append (no_parallel t) k = k
parallels_append (parallel_then h l) k = parallel_then h (parallels_append l k)

-- a parallel step and a row of them meet
pub strip : {t u v : Term} → ParallelStep t u → ParallelSteps t v → (w : Term) × ParallelSteps u w × ParallelStep v w
strip {u = u} h (no_parallel t) = (u, no_parallel u, h)
strip h (parallel_then k l) =
    let d = diamond h k in
    let r = strip d.2 l in
    (r.0, parallel_then d.1 r.1, r.2)

-- two rows of parallel steps of one term meet
pub confluence : {t u v : Term} → ParallelSteps t u → ParallelSteps t v → (w : Term) × ParallelSteps u w × ParallelSteps v w
confluence {v = v} (no_parallel t) k = (v, k, no_parallel v)
confluence (parallel_then h l) k =
    let s = strip h k in
    let r = confluence l s.1 in
    (r.0, r.1, parallel_then s.2 r.2)

-- rows of steps under the constructors
parallels_function : {t t' : Term} (u : Term) → ParallelSteps t t' → ParallelSteps (app t u) (app t' u)
parallels_function u (no_parallel t) = no_parallel (app t u)
parallels_function u (parallel_then h l) = parallel_then (parallel_app h (parallel_refl u)) (parallels_function u l)

parallels_argument : {u u' : Term} (t : Term) → ParallelSteps u u' → ParallelSteps (app t u) (app t u')
parallels_argument t (no_parallel u) = no_parallel (app t u)
parallels_argument t (parallel_then h l) = parallel_then (parallel_app (parallel_refl t) h) (parallels_argument t l)

pub parallels_app : {t t' u u' : Term} → ParallelSteps t t' → ParallelSteps u u' → ParallelSteps (app t u) (app t' u')
parallels_app {t' = t'} {u = u} h k = parallels_append (parallels_function u h) (parallels_argument t' k)

pub parallels_lam : {a a' t t' : Term} → ParallelSteps a a' → ParallelSteps t t' → ParallelSteps (lam a t) (lam a' t')
parallels_lam (no_parallel a) (no_parallel t) = no_parallel (lam a t)
parallels_lam (no_parallel a) (parallel_then h l) = parallel_then (parallel_lam (parallel_refl a) h) (parallels_lam (no_parallel a) l)
parallels_lam {t = t} (parallel_then h l) k = parallel_then (parallel_lam h (parallel_refl t)) (parallels_lam l k)

pub parallels_pi : {a a' t t' : Term} → ParallelSteps a a' → ParallelSteps t t' → ParallelSteps (pi a t) (pi a' t')
parallels_pi (no_parallel a) (no_parallel t) = no_parallel (pi a t)
parallels_pi (no_parallel a) (parallel_then h l) = parallel_then (parallel_pi (parallel_refl a) h) (parallels_pi (no_parallel a) l)
parallels_pi {t = t} (parallel_then h l) k = parallel_then (parallel_pi h (parallel_refl t)) (parallels_pi l k)

-- a root step is a parallel one
rule_parallels : {t u : Term} → Rewrites t u → ParallelSteps t u
rule_parallels {u = u} r =
    let i = rule_left_side r in
    let l : Rewrites (proof_of i.0) u = rw (← i.1) r in
    rw (i.1) (parallel_then (parallel_reduced (parallel_refl (con prf_name)) (parallel_refl i.0) (root_rule l)) (no_parallel u))

pub root_parallels : {t u : Term} → RootStep t u → ParallelSteps t u
root_parallels (root_beta a t u) = parallel_then (parallel_reduced (parallel_refl (lam a t)) (parallel_refl u) (root_beta a t u)) (no_parallel (instantiate t u))
root_parallels (root_rule r) = rule_parallels r

-- terms that are convertible have a common reduct
pub church_rosser : {t u : Term} → Convertible t u → (w : Term) × ParallelSteps t w × ParallelSteps u w
church_rosser (conv_refl t) = (t, no_parallel t, no_parallel t)
church_rosser (conv_sym h) = let r = church_rosser h in (r.0, r.2, r.1)
church_rosser (conv_trans h k) =
    let r = church_rosser h in
    let s = church_rosser k in
    let c = confluence r.2 s.1 in
    (c.0, parallels_append r.1 c.1, parallels_append s.2 c.2)
church_rosser (conv_app h k) = let r = church_rosser h in let s = church_rosser k in (app r.0 s.0, parallels_app r.1 s.1, parallels_app r.2 s.2)
church_rosser (conv_lam h k) = let r = church_rosser h in let s = church_rosser k in (lam r.0 s.0, parallels_lam r.1 s.1, parallels_lam r.2 s.2)
church_rosser (conv_pi h k) = let r = church_rosser h in let s = church_rosser k in (pi r.0 s.0, parallels_pi r.1 s.1, parallels_pi r.2 s.2)
church_rosser (conv_beta a t u) = (instantiate t u, root_parallels (root_beta a t u), no_parallel (instantiate t u))
church_rosser {u = u} (conv_rule r) = (u, root_parallels (root_rule r), no_parallel u)

root_converts : {t u : Term} → RootStep t u → Convertible t u
root_converts (root_beta a t u) = conv_beta a t u
root_converts (root_rule r) = conv_rule r

-- what a parallel step comes to is convertible
pub parallel_converts : {t u : Term} → ParallelStep t u → Convertible t u
parallel_converts parallel_type = conv_refl type
parallel_converts parallel_kind = conv_refl kind
parallel_converts (parallel_con s) = conv_refl (con s)
parallel_converts (parallel_pat x) = conv_refl (pat x)
parallel_converts (parallel_var n) = conv_refl (var n)
parallel_converts (parallel_app h k) = conv_app (parallel_converts h) (parallel_converts k)
parallel_converts (parallel_lam h k) = conv_lam (parallel_converts h) (parallel_converts k)
parallel_converts (parallel_pi h k) = conv_pi (parallel_converts h) (parallel_converts k)
parallel_converts (parallel_reduced h k r) = conv_trans (conv_app (parallel_converts h) (parallel_converts k)) (root_converts r)

pub parallels_convert : {t u : Term} → ParallelSteps t u → Convertible t u
parallels_convert (no_parallel t) = conv_refl t
parallels_convert (parallel_then h l) = conv_trans (parallel_converts h) (parallels_convert l)

-- what a product reduces to is a product
parallels_of_pi : {a b v : Term} → ParallelSteps (pi a b) v → (a' : Term) × (b' : Term) × (v ≡ pi a' b') × ParallelSteps a a' × ParallelSteps b b'
parallels_of_pi {a = a} {b = b} h = go h a b refl
  where
    go : {t v : Term} → ParallelSteps t v → (a b : Term) → t ≡ pi a b → (a' : Term) × (b' : Term) × (v ≡ pi a' b') × ParallelSteps a a' × ParallelSteps b b'
    go (no_parallel t) a b e = (a, b, e, no_parallel a, no_parallel b)
    go {v = v} (parallel_then {u = u} h l) a b e =
        let i = parallel_of_pi (subst (λ x. ParallelStep x u) e h) in
        let j = go l i.0 i.1 i.2 in
        (j.0, j.1, j.2, parallel_then i.3 j.3, parallel_then i.4 j.4)

-- products are convertible only where their parts are
pub pi_injective : {a b a' b' : Term} → Convertible (pi a b) (pi a' b') → Convertible a a' × Convertible b b'
pi_injective h =
    let r = church_rosser h in
    let i = parallels_of_pi r.1 in
    let j = parallels_of_pi r.2 in
    let e : pi i.0 i.1 ≡ pi j.0 j.1 = sym i.2 ∙ j.2 in
    let ea : i.0 ≡ j.0 = cc in
    let eb : i.1 ≡ j.1 = cc in
    (conv_trans (rw ea at (parallels_convert i.3)) (conv_sym (parallels_convert j.3)), conv_trans (rw eb at (parallels_convert i.4)) (conv_sym (parallels_convert j.4)))
