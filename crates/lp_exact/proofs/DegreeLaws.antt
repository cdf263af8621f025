-- Degrees are kept by renaming, substitution and reduction, so convertible types have one sort.
use Rattle.std.proofs.Common.{◌≡◌, ℕ, zero, suc, List, ◌∷◌, refl, sym, ap, ◌∙◌, arith}
use Rattle.lp_term.specs.Connectives.{proof_of}
use Rattle.lp_term.specs.Conversion.{Rewrites, rewrite_imp, rewrite_not, rewrite_all, rewrite_bot, rewrite_top, rewrite_and, rewrite_or, rewrite_ex, rewrite_iff, Convertible}
use Rattle.lp_term.specs.LambdaPi.{Term, type, kind, con, pat, var, app, lam, pi, under_renaming, rename, shift, under_binder, substitute, for_last, instantiate}
use Rattle.lp_term.specs.Typing.{Declaration, Gives, given_here, given_later, IsSort, sort_type, sort_kind, HasType, has_type, has_var, has_con, has_pi, has_lam, has_app, has_conv}
use Rattle.lp_exact.specs.ParallelReduction.{ParallelSteps, no_parallel, parallel_then, RootStep, root_beta, root_rule, ParallelStep, parallel_type, parallel_kind, parallel_con, parallel_pat, parallel_var, parallel_app, parallel_lam, parallel_pi, parallel_reduced}
use Rattle.lp_exact.specs.Degrees.{degree, IsGraded, IsGradedSignature, IsGradedContext}
use Rattle.lp_exact.proofs.ConfluenceLaws.{church_rosser}

-- ---- renaming and substitution by objects

pub degree_rename : (t : Term) (r : ℕ → ℕ) → degree (rename r t) ≡ degree t
degree_rename type r = refl
degree_rename kind r = refl
degree_rename (con s) r = refl
degree_rename (pat s) r = refl
degree_rename (var n) r = refl
degree_rename (app t u) r = degree_rename t r
degree_rename (lam a t) r = degree_rename t (under_renaming r)
degree_rename (pi a b) r = degree_rename b (under_renaming r)

pub graded_rename : (t : Term) (r : ℕ → ℕ) → IsGraded t → IsGraded (rename r t)
graded_rename type r h = tt
graded_rename kind r h = tt
graded_rename (con s) r h = tt
graded_rename (pat s) r h = tt
graded_rename (var n) r h = tt
graded_rename (app t u) r h = (graded_rename t r h.0, graded_rename u r h.1, degree_rename u r ∙ h.2)
graded_rename (lam a t) r h = (graded_rename a r h.0, graded_rename t (under_renaming r) h.1, degree_rename a r ∙ h.2)
graded_rename (pi a b) r h = (graded_rename a r h.0, graded_rename b (under_renaming r) h.1, degree_rename a r ∙ h.2)

degree_under_binder : (s : ℕ → Term) → ((n : ℕ) → degree (s n) ≡ 0) → (n : ℕ) → degree (under_binder s n) ≡ 0
degree_under_binder s h zero = refl
degree_under_binder s h (suc n) = degree_rename (s n) (λ m. suc m) ∙ h n

graded_under_binder : (s : ℕ → Term) → ((n : ℕ) → IsGraded (s n)) → (n : ℕ) → IsGraded (under_binder s n)
graded_under_binder s h zero = tt
graded_under_binder s h (suc n) = graded_rename (s n) (λ m. suc m) (h n)

pub degree_substitute : (t : Term) (s : ℕ → Term) → ((n : ℕ) → degree (s n) ≡ 0) → degree (substitute s t) ≡ degree t
degree_substitute type s h = refl
degree_substitute kind s h = refl
degree_substitute (con x) s h = refl
degree_substitute (pat x) s h = refl
degree_substitute (var n) s h = h n
degree_substitute (app t u) s h = degree_substitute t s h
degree_substitute (lam a t) s h = degree_substitute t (under_binder s) (degree_under_binder s h)
degree_substitute (pi a b) s h = degree_substitute b (under_binder s) (degree_under_binder s h)

pub graded_substitute : (t : Term) (s : ℕ → Term) → ((n : ℕ) → degree (s n) ≡ 0) → ((n : ℕ) → IsGraded (s n)) → IsGraded t → IsGraded (substitute s t)
graded_substitute type s h k f = tt
graded_substitute kind s h k f = tt
graded_substitute (con x) s h k f = tt
graded_substitute (pat x) s h k f = tt
graded_substitute (var n) s h k f = k n
graded_substitute (app t u) s h k f = (graded_substitute t s h k f.0, graded_substitute u s h k f.1, degree_substitute u s h ∙ f.2)
graded_substitute (lam a t) s h k f = (graded_substitute a s h k f.0, graded_substitute t (under_binder s) (degree_under_binder s h) (graded_under_binder s k) f.1, degree_substitute a s h ∙ f.2)
graded_substitute (pi a b) s h k f = (graded_substitute a s h k f.0, graded_substitute b (under_binder s) (degree_under_binder s h) (graded_under_binder s k) f.1, degree_substitute a s h ∙ f.2)

-- an object for the last variable
degree_for_last : (u : Term) → degree u ≡ 0 → (n : ℕ) → degree (for_last u n) ≡ 0
degree_for_last u h zero = h
degree_for_last u h (suc n) = refl

graded_for_last : (u : Term) → IsGraded u → (n : ℕ) → IsGraded (for_last u n)
graded_for_last u h zero = h
graded_for_last u h (suc n) = tt

pub degree_instantiate : (t u : Term) → degree u ≡ 0 → degree (instantiate t u) ≡ degree t
degree_instantiate t u h = degree_substitute t (for_last u) (degree_for_last u h)

pub graded_instantiate : (t u : Term) → degree u ≡ 0 → IsGraded u → IsGraded t → IsGraded (instantiate t u)
graded_instantiate t u h k f = graded_substitute t (for_last u) (degree_for_last u h) (graded_for_last u k) f

graded_shift : (p : Term) → IsGraded p → IsGraded (shift p)
graded_shift p f = graded_rename p (λ n. suc n) f

degree_shift : (p : Term) → degree (shift p) ≡ degree p
degree_shift p = degree_rename p (λ n. suc n)

-- an object renamed, as the argument of Prf
graded_proof : (p : Term) (r : ℕ → ℕ) → IsGraded p → degree p ≡ 0 → IsGraded (proof_of (rename r p))
graded_proof p r f d = (tt, graded_rename p r f, degree_rename p r ∙ d)

-- the right side of a rule is graded, and of the left side's degree
rule_graded : {t u : Term} → Rewrites t u → IsGraded t → IsGraded u
rule_graded (rewrite_imp p q) f = ((tt, f.1.0.1, f.1.0.2), graded_proof q (λ n. suc n) f.1.1 f.1.2, refl)
rule_graded (rewrite_not p) f = ((tt, f.1.1, f.1.2), (tt, tt, refl), refl)
rule_graded (rewrite_all p) f = (tt, (tt, (graded_shift p f.1.1, tt, refl), degree_shift p ∙ f.1.2), refl)
rule_graded rewrite_bot f = (tt, (tt, tt, refl), refl)
rule_graded rewrite_top f = (tt, ((tt, tt, refl), (tt, tt, refl), refl), refl)
rule_graded (rewrite_and p q) f =
    let fp = graded_proof p (λ n. suc n) f.1.0.1 f.1.0.2 in
    let fq = graded_proof (shift q) (λ n. suc n) (graded_shift q f.1.1) (degree_shift q ∙ f.1.2) in
    (tt, ((fp, (fq, (tt, tt, refl), refl), refl), (tt, tt, refl), refl), refl)
rule_graded (rewrite_or p q) f =
    let fp = graded_proof p (λ n. suc n) f.1.0.1 f.1.0.2 in
    let fq = graded_proof (shift q) (λ n. suc n) (graded_shift q f.1.1) (degree_shift q ∙ f.1.2) in
    (tt, ((fp, (tt, tt, refl), refl), ((fq, (tt, tt, refl), refl), (tt, tt, refl), refl), refl), refl)
rule_graded (rewrite_ex p) f =
    let fp = graded_shift (shift p) (graded_shift p f.1.1) in
    let dp = degree_shift (shift p) ∙ degree_shift p ∙ f.1.2 in
    (tt, ((tt, ((tt, (fp, tt, refl), dp), (tt, tt, refl), refl), refl), (tt, tt, refl), refl), refl)
rule_graded (rewrite_iff p q) f =
    let p1 = graded_shift p f.1.0.1 in
    let q1 = graded_shift q f.1.1 in
    let dp = degree_shift p ∙ f.1.0.2 in
    let dq = degree_shift q ∙ f.1.2 in
    let up1 = under_renaming (λ n. suc n) in
    let fq = graded_proof (shift q) (λ n. suc n) q1 dq in
    let fp = graded_proof (shift (shift p)) up1 (graded_shift (shift p) p1) (degree_shift (shift p) ∙ dp) in
    (tt, ((((tt, p1, dp), fq, refl), ((fq, fp, refl), (tt, tt, refl), refl), refl), (tt, tt, refl), refl), refl)

rule_degree : {t u : Term} → Rewrites t u → degree u ≡ degree t
rule_degree (rewrite_imp p q) = refl
rule_degree (rewrite_not p) = refl
rule_degree (rewrite_all p) = refl
rule_degree rewrite_bot = refl
rule_degree rewrite_top = refl
rule_degree (rewrite_and p q) = refl
rule_degree (rewrite_or p q) = refl
rule_degree (rewrite_ex p) = refl
rule_degree (rewrite_iff p q) = refl

root_keeps_degree : {t u : Term} → RootStep t u → IsGraded t → IsGraded u × (degree u ≡ degree t)
root_keeps_degree (root_beta a t u) f = (graded_instantiate t u f.2 f.1 f.0.1, degree_instantiate t u f.2)
root_keeps_degree (root_rule r) f = (rule_graded r f, rule_degree r)

-- a parallel step keeps both
pub parallel_keeps_degree : {t u : Term} → ParallelStep t u → IsGraded t → IsGraded u × (degree u ≡ degree t)
parallel_keeps_degree parallel_type f = (tt, refl)
parallel_keeps_degree parallel_kind f = (tt, refl)
parallel_keeps_degree (parallel_con s) f = (tt, refl)
parallel_keeps_degree (parallel_pat x) f = (tt, refl)
parallel_keeps_degree (parallel_var n) f = (tt, refl)
parallel_keeps_degree (parallel_app h k) f = let i = parallel_keeps_degree h f.0 in let j = parallel_keeps_degree k f.1 in ((i.0, j.0, j.1 ∙ f.2), i.1)
parallel_keeps_degree (parallel_lam h k) f = let i = parallel_keeps_degree h f.0 in let j = parallel_keeps_degree k f.1 in ((i.0, j.0, i.1 ∙ f.2), j.1)
parallel_keeps_degree (parallel_pi h k) f = let i = parallel_keeps_degree h f.0 in let j = parallel_keeps_degree k f.1 in ((i.0, j.0, i.1 ∙ f.2), j.1)
parallel_keeps_degree (parallel_reduced h k r) f =
    let i = parallel_keeps_degree h f.0 in
    let j = parallel_keeps_degree k f.1 in
    let l = root_keeps_degree r (i.0, j.0, j.1 ∙ f.2) in
    (l.0, l.1 ∙ i.1)

pub parallels_keep_degree : {t u : Term} → ParallelSteps t u → IsGraded t → degree u ≡ degree t
parallels_keep_degree (no_parallel t) f = refl
parallels_keep_degree (parallel_then h l) f = let i = parallel_keeps_degree h f in parallels_keep_degree l i.0 ∙ i.1

-- ---- a typed term is graded, and one degree below its type

context_grades : {g : List Term} {c : Term} → IsGradedContext g → IsGraded c → degree c ≡ 1 → (n : ℕ) (a : Term) → Gives (c ∷ g) n a → IsGraded a × (degree a ≡ 1)
context_grades h f d zero a (given_here g b) = (graded_shift b f, degree_shift b ∙ d)
context_grades h f d (suc n) a (given_later {a = b} c k) = let i = h.grades n b k in (graded_shift b i.0, degree_shift b ∙ i.1)

degree_of_object : (a b : ℕ) → a ≡ suc b → a ≡ 1 → b ≡ 0
degree_of_object a b h k = omega arith

degree_of_type : (a : ℕ) → 2 ≡ suc a → a ≡ 1
degree_of_type a h = omega arith

same_degree : (a b c : ℕ) → c ≡ suc a → c ≡ suc b → a ≡ b
same_degree a b c h k = omega arith

pub typed_graded : {sig : List Declaration} {g : List Term} {t a : Term} → IsGradedSignature sig → IsGradedContext g → HasType sig g t a → IsGraded t × IsGraded a × (degree a ≡ suc (degree t))
typed_graded r c (has_type g) = (tt, tt, refl)
typed_graded r c (has_var {n = n} {a = a} k) = let i = c.grades n a k in (tt, i.0, i.1)
typed_graded r c (has_con g {s = x} {a = a} k) = let i = r.grades x a k in (tt, i.0, i.1)
typed_graded r c (has_pi {a = a} s h k) =
    let i = typed_graded r c h in
    let d : degree a ≡ 1 = degree_of_type (degree a) i.2 in
    let j = typed_graded r (record { grades = context_grades c i.0 d }) k in
    ((i.0, j.0, d), j.1, j.2)
typed_graded r c (has_lam s h k) =
    let i = typed_graded r c h in
    let j = typed_graded r (record { grades = context_grades c i.0.0 i.0.2 }) k in
    ((i.0.0, j.0, i.0.2), i.0, j.2)
typed_graded r c (has_app {a = a} {b = b} {u = u} h k) =
    let i = typed_graded r c h in
    let j = typed_graded r c k in
    let d : degree u ≡ 0 = degree_of_object (degree a) (degree u) j.2 i.1.2 in
    ((i.0, j.0, d), graded_instantiate b u d j.0 i.1.1, degree_instantiate b u d ∙ i.2)
typed_graded r c (has_conv {a = a} {b = b} {s = s} x h e l m) =
    let i = typed_graded r c h in
    let j = typed_graded r c l in
    let k = typed_graded r c m in
    (i.0, k.0, sym (same_degree (degree a) (degree b) (degree s) j.2 k.2) ∙ i.2)

-- ---- convertible types have one sort

convertible_degree : {t u : Term} → Convertible t u → IsGraded t → IsGraded u → degree t ≡ degree u
convertible_degree e f g = let r = church_rosser e in sym (parallels_keep_degree r.1 f) ∙ parallels_keep_degree r.2 g

sorts_same : {s t : Term} → IsSort s → IsSort t → degree s ≡ degree t → s ≡ t
sorts_same sort_type sort_type e = refl
sorts_same sort_type sort_kind e = absurd (omega arith)
sorts_same sort_kind sort_type e = absurd (omega arith)
sorts_same sort_kind sort_kind e = refl

-- convertible types have one sort
pub one_sort : {sig : List Declaration} {g : List Term} {a b s t : Term} → IsGradedSignature sig → IsGradedContext g → IsSort s → IsSort t → Convertible a b → HasType sig g a s → HasType sig g b t → s ≡ t
one_sort r c i j e h k =
    let x = typed_graded r c h in
    let y = typed_graded r c k in
    sorts_same i j (x.2 ∙ ap (λ n. suc n) (convertible_degree e x.0 y.0) ∙ sym y.2)

pub graded_context_extends : {sig : List Declaration} {g : List Term} {c : Term} → IsGradedSignature sig → IsGradedContext g → HasType sig g c type → IsGradedContext (c ∷ g)
graded_context_extends {c = c} r k h =
    let i = typed_graded r k h in record { grades = context_grades k i.0 (degree_of_type (degree c) i.2) }

graded_sort : {s : Term} → IsSort s → IsGraded s
graded_sort sort_type = tt
graded_sort sort_kind = tt

pub sorts_convert : {s t : Term} → IsSort s → IsSort t → Convertible s t → s ≡ t
sorts_convert i j e = sorts_same i j (convertible_degree e (graded_sort i) (graded_sort j))
