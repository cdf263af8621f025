-- Parallel reduction has the diamond property: each reduct comes to the whole development.
use Rattle.std.proofs.Common.{◌≡◌, ℕ, zero, suc, refl, ap, subst, ◌⊎◌, inl, inr, List}
use Rattle.lp_term.specs.LambdaPi.{Term, type, kind, con, pat, var, app, lam, pi, under_renaming, rename, shift, under_binder, substitute, for_last, instantiate}
use Rattle.lp_term.specs.Names.{prf_name}
use Rattle.lp_term.specs.Connectives.{arrow, individuals, propositions, proof_of, bot}
use Rattle.lp_term.specs.Conversion.{Rewrites, rewrite_all, rewrite_and, rewrite_bot, rewrite_ex, rewrite_iff, rewrite_imp, rewrite_not, rewrite_or, rewrite_top}
use Rattle.lp_term.proofs.SubstitutionLaws.{rename_is_substitute, substitute_instantiate}
use Rattle.lp_term.proofs.ConversionLaws.{rewrites_substitute}
use Rattle.lp_exact.specs.declared.word.Word.{Word}
use Rattle.lp_exact.specs.declared.word.Word.TheVariants.{Prf, Imp, And, Or, Iff, Not, Top, Bot, All, Ex}
use Rattle.lp_exact.specs.Words.{word_of}
use Rattle.lp_exact.specs.Layers.{applied_to_bound, layer_of_constant, layer_of_unary, layer_of_binary}
use Rattle.lp_exact.specs.ParallelReduction.{RootStep, root_beta, root_rule, ParallelStep, parallel_type, parallel_kind, parallel_con, parallel_pat, parallel_var, parallel_app, parallel_lam, parallel_pi, parallel_reduced, developed, developed_application, developed_symbol, developed_proof}
use Rattle.lp_exact.proofs.WordLaws.{IsNamed, named}

-- steps hold after a substitution and a renaming
pub root_substitutes : {t u : Term} (s : ℕ → Term) → RootStep t u → RootStep (substitute s t) (substitute s u)
root_substitutes s (root_beta a t u) = rw substitute_instantiate (root_beta (substitute s a) (substitute (under_binder s) t) (substitute s u))
root_substitutes s (root_rule h) = root_rule (rewrites_substitute s h)

-- no step at all is a parallel step
pub parallel_refl : (t : Term) → ParallelStep t t
parallel_refl type = parallel_type
parallel_refl kind = parallel_kind
parallel_refl (con s) = parallel_con s
parallel_refl (pat x) = parallel_pat x
parallel_refl (var n) = parallel_var n
parallel_refl (app t u) = parallel_app (parallel_refl t) (parallel_refl u)
parallel_refl (lam a t) = parallel_lam (parallel_refl a) (parallel_refl t)
parallel_refl (pi a b) = parallel_pi (parallel_refl a) (parallel_refl b)

root_renames : {t u : Term} (r : ℕ → ℕ) → RootStep t u → RootStep (rename r t) (rename r u)
root_renames {t} {u} r h = rw (rename_is_substitute t r, rename_is_substitute u r) (root_substitutes (λ n. var (r n)) h)

pub parallel_renames : {t u : Term} (r : ℕ → ℕ) → ParallelStep t u → ParallelStep (rename r t) (rename r u)
parallel_renames r parallel_type = parallel_type
parallel_renames r parallel_kind = parallel_kind
parallel_renames r (parallel_con s) = parallel_con s
parallel_renames r (parallel_pat x) = parallel_pat x
parallel_renames r (parallel_var n) = parallel_var (r n)
parallel_renames r (parallel_app h k) = parallel_app (parallel_renames r h) (parallel_renames r k)
parallel_renames r (parallel_lam h k) = parallel_lam (parallel_renames r h) (parallel_renames (under_renaming r) k)
parallel_renames r (parallel_pi h k) = parallel_pi (parallel_renames r h) (parallel_renames (under_renaming r) k)
parallel_renames r (parallel_reduced h k l) = parallel_reduced (parallel_renames r h) (parallel_renames r k) (root_renames r l)

-- a parallel step of each part of a substitution
parallel_under_binder : (s q : ℕ → Term) → ((n : ℕ) → ParallelStep (s n) (q n)) → (n : ℕ) → ParallelStep (under_binder s n) (under_binder q n)
parallel_under_binder s q h zero = parallel_var 0
parallel_under_binder s q h (suc n) = parallel_renames (λ m. suc m) (h n)

pub parallel_substitutes : {t u : Term} (s q : ℕ → Term) → ((n : ℕ) → ParallelStep (s n) (q n)) → ParallelStep t u → ParallelStep (substitute s t) (substitute q u)
parallel_substitutes s q e parallel_type = parallel_type
parallel_substitutes s q e parallel_kind = parallel_kind
parallel_substitutes s q e (parallel_con x) = parallel_con x
parallel_substitutes s q e (parallel_pat x) = parallel_pat x
parallel_substitutes s q e (parallel_var n) = e n
parallel_substitutes s q e (parallel_app h k) = parallel_app (parallel_substitutes s q e h) (parallel_substitutes s q e k)
parallel_substitutes s q e (parallel_lam h k) = parallel_lam (parallel_substitutes s q e h) (parallel_substitutes (under_binder s) (under_binder q) (parallel_under_binder s q e) k)
parallel_substitutes s q e (parallel_pi h k) = parallel_pi (parallel_substitutes s q e h) (parallel_substitutes (under_binder s) (under_binder q) (parallel_under_binder s q e) k)
parallel_substitutes s q e (parallel_reduced h k l) = parallel_reduced (parallel_substitutes s q e h) (parallel_substitutes s q e k) (root_substitutes q l)

parallel_for_last : {u v : Term} → ParallelStep u v → (n : ℕ) → ParallelStep (for_last u n) (for_last v n)
parallel_for_last h zero = h
parallel_for_last h (suc n) = parallel_var n

pub parallel_instantiates : {t t' u u' : Term} → ParallelStep t t' → ParallelStep u u' → ParallelStep (instantiate t u) (instantiate t' u')
parallel_instantiates {u = u} {u' = u'} h k = parallel_substitutes (for_last u) (for_last u') (parallel_for_last k) h

-- a term stays, or is a rule's left side
abbrev pub StaysOrRewrites : Term → Term → Type 0
StaysOrRewrites t u = (u ≡ t) ⊎ Rewrites t u

-- `Prf` of a word, by its rule or as it stands
constant_is : (w : Word) (x : List ℕ) → IsNamed w x → StaysOrRewrites (proof_of (con x)) (layer_of_constant w (proof_of (con x)))
constant_is Bot x e = inr (rw e rewrite_bot)
constant_is Top x e = inr (rw e rewrite_top)
constant_is _ x e = inl refl

unary_is : (w : Word) (x : List ℕ) (p : Term) → IsNamed w x → StaysOrRewrites (proof_of (app (con x) p)) (layer_of_unary applied_to_bound w p (proof_of (app (con x) p)))
unary_is Not x p e = inr (rw e (rewrite_not p))
unary_is All x p e = inr (rw e (rewrite_all p))
unary_is Ex x p e = inr (rw e (rewrite_ex p))
unary_is _ x p e = inl refl

binary_is : (w : Word) (x : List ℕ) (p q : Term) → IsNamed w x → StaysOrRewrites (proof_of (app (app (con x) p) q)) (layer_of_binary w p q (proof_of (app (app (con x) p) q)))
binary_is Imp x p q e = inr (rw e (rewrite_imp p q))
binary_is And x p q e = inr (rw e (rewrite_and p q))
binary_is Or x p q e = inr (rw e (rewrite_or p q))
binary_is Iff x p q e = inr (rw e (rewrite_iff p q))
binary_is _ x p q e = inl refl

pub developed_proof_is : (u : Term) → StaysOrRewrites (proof_of u) (developed_proof u)
developed_proof_is (con x) = constant_is (word_of x) x (named x)
developed_proof_is (app (con x) p) = unary_is (word_of x) x p (named x)
developed_proof_is (app (app (con x) p) q) = binary_is (word_of x) x p q (named x)
developed_proof_is _ = inl refl

developed_symbol_is : (w : Word) (x : List ℕ) (u : Term) → IsNamed w x → StaysOrRewrites (app (con x) u) (developed_symbol w x u)
developed_symbol_is Prf x u e = rw e (developed_proof_is u)
developed_symbol_is _ x u e = inl refl

developed_application_is : (t u : Term) → (developed_application t u ≡ app t u) ⊎ RootStep (app t u) (developed_application t u)
developed_application_is (lam a t) u = inr (root_beta a t u)
developed_application_is (con x) u = elim (developed_symbol_is (word_of x) x u (named x)) [ inl e ↦ inl e | inr r ↦ inr (root_rule r) ]
developed_application_is _ u = inl refl

-- the root's step, if there is one, after the parts'
parallel_developed : {t t' u u' : Term} → ParallelStep t t' → ParallelStep u u' → ParallelStep (app t u) (developed_application t' u')
parallel_developed {t' = t'} {u' = u'} h k =
    elim (developed_application_is t' u') [ inl e ↦ rw e (parallel_app h k) | inr r ↦ parallel_reduced h k r ]

-- what a term of a given form reduces to
parallel_of_con : {s : List ℕ} {v : Term} → ParallelStep (con s) v → v ≡ con s
parallel_of_con (parallel_con s) = refl

pub parallel_of_lam : {a t v : Term} → ParallelStep (lam a t) v → (a' : Term) × (t' : Term) × (v ≡ lam a' t') × ParallelStep a a' × ParallelStep t t'
parallel_of_lam (parallel_lam {a' = a'} {t' = t'} h k) = (a', t', refl, h, k)

pub parallel_of_pi : {a b v : Term} → ParallelStep (pi a b) v → (a' : Term) × (b' : Term) × (v ≡ pi a' b') × ParallelStep a a' × ParallelStep b b'
parallel_of_pi (parallel_pi {a' = a'} {b' = b'} h k) = (a', b', refl, h, k)

-- the word isn't `Prf`
abbrev IsOtherWord : Word → Type 0
IsOtherWord Prf = ⊥
IsOtherWord _ = Unit {0}

-- the symbol isn't Prf
abbrev IsOtherThanPrf : List ℕ → Type 0
IsOtherThanPrf x = IsOtherWord (word_of x)

-- such a symbol has no rule, nor has an application of two arguments
no_rule_of_symbol : {s : List ℕ} {u v : Term} → IsOtherThanPrf s → Rewrites (app (con s) u) v → ⊥
no_rule_of_symbol n (rewrite_imp p q) = n
no_rule_of_symbol n (rewrite_not p) = n
no_rule_of_symbol n (rewrite_all p) = n
no_rule_of_symbol n rewrite_bot = n
no_rule_of_symbol n rewrite_top = n
no_rule_of_symbol n (rewrite_and p q) = n
no_rule_of_symbol n (rewrite_or p q) = n
no_rule_of_symbol n (rewrite_ex p) = n
no_rule_of_symbol n (rewrite_iff p q) = n

no_root_of_symbol : {s : List ℕ} {u v : Term} → IsOtherThanPrf s → RootStep (app (con s) u) v → ⊥
no_root_of_symbol n (root_rule r) = no_rule_of_symbol n r

no_rule_of_two : {a b c v : Term} → Rewrites (app (app a b) c) v → ⊥
no_rule_of_two = elim [ ]

no_root_of_two : {a b c v : Term} → RootStep (app (app a b) c) v → ⊥
no_root_of_two (root_rule r) = no_rule_of_two r

-- a step of its application is one of the arguments
parallel_of_unary : {s : List ℕ} {p v : Term} → IsOtherThanPrf s → ParallelStep (app (con s) p) v → (p' : Term) × (v ≡ app (con s) p') × ParallelStep p p'
parallel_of_unary n (parallel_app {u' = p'} h k) = (p', ap (λ x. app x p') (parallel_of_con h), k)
parallel_of_unary {s = s} n (parallel_reduced {u' = p'} {v = v} h k l) = absurd (no_root_of_symbol n (subst (λ x. RootStep (app x p') v) (parallel_of_con h) l))

parallel_of_binary : {s : List ℕ} {p q v : Term} → IsOtherThanPrf s → ParallelStep (app (app (con s) p) q) v → (p' : Term) × (q' : Term) × (v ≡ app (app (con s) p') q') × ParallelStep p p' × ParallelStep q q'
parallel_of_binary n (parallel_app {u' = q'} h k) = let i = parallel_of_unary n h in (i.0, q', ap (λ x. app x q') i.1, i.2, k)
parallel_of_binary n (parallel_reduced {u' = q'} {v = v} h k l) =
    let i = parallel_of_unary n h in absurd (no_root_of_two (subst (λ x. RootStep (app x q') v) i.1 l))

-- steps under the constructors of the rules' sides
parallel_proof : {p p' : Term} → ParallelStep p p' → ParallelStep (proof_of p) (proof_of p')
parallel_proof h = parallel_app (parallel_con prf_name) h

parallel_shift : {p p' : Term} → ParallelStep p p' → ParallelStep (shift p) (shift p')
parallel_shift h = parallel_renames (λ n. suc n) h

parallel_arrow : {a a' b b' : Term} → ParallelStep a a' → ParallelStep b b' → ParallelStep (arrow a b) (arrow a' b')
parallel_arrow h k = parallel_pi h (parallel_shift k)

-- the sides of a rule reduce together
parallel_rule : {u v w : Term} → Rewrites (proof_of u) v → ParallelStep u w → ParallelStep v (developed_proof w)
parallel_rule (rewrite_imp p q) h = let i = parallel_of_binary tt h in rw (i.2) (parallel_arrow (parallel_proof i.3) (parallel_proof i.4))
parallel_rule (rewrite_not p) h = let i = parallel_of_unary tt h in rw (i.1) (parallel_arrow (parallel_proof i.2) (parallel_refl (proof_of bot)))
parallel_rule (rewrite_all f) h = let i = parallel_of_unary tt h in rw (i.1) (parallel_pi (parallel_refl individuals) (parallel_proof (parallel_app (parallel_shift i.2) (parallel_var 0))))
parallel_rule rewrite_bot h = rw (parallel_of_con h) (parallel_refl _)
parallel_rule rewrite_top h = rw (parallel_of_con h) (parallel_refl _)
parallel_rule (rewrite_and p q) h =
    let i = parallel_of_binary tt h in
    let v = parallel_refl (proof_of (var 0)) in
    rw (i.2) (parallel_pi (parallel_refl propositions) (parallel_arrow (parallel_arrow (parallel_proof (parallel_shift i.3)) (parallel_arrow (parallel_proof (parallel_shift i.4)) v)) v))
parallel_rule (rewrite_or p q) h =
    let i = parallel_of_binary tt h in
    let v = parallel_refl (proof_of (var 0)) in
    rw (i.2) (parallel_pi (parallel_refl propositions) (parallel_arrow (parallel_arrow (parallel_proof (parallel_shift i.3)) v) (parallel_arrow (parallel_arrow (parallel_proof (parallel_shift i.4)) v) v)))
parallel_rule (rewrite_ex f) h =
    let i = parallel_of_unary tt h in
    let v = parallel_refl (proof_of (var 0)) in
    rw (i.1) (parallel_pi (parallel_refl propositions) (parallel_arrow (parallel_pi (parallel_refl individuals) (parallel_arrow (parallel_proof (parallel_app (parallel_shift (parallel_shift i.2)) (parallel_var 0))) (parallel_refl (proof_of (var 1))))) v))
parallel_rule (rewrite_iff p q) h =
    let i = parallel_of_binary tt h in
    let v = parallel_refl (proof_of (var 0)) in
    let hp = parallel_proof (parallel_shift i.3) in
    let hq = parallel_proof (parallel_shift i.4) in
    rw (i.2) (parallel_pi (parallel_refl propositions) (parallel_arrow (parallel_arrow (parallel_arrow hp hq) (parallel_arrow (parallel_arrow hq hp) v)) v))

-- each left side is `Prf` of a term
pub rule_head : {t u v : Term} → Rewrites (app t u) v → t ≡ con prf_name
rule_head (rewrite_imp p q) = refl
rule_head (rewrite_not p) = refl
rule_head (rewrite_all p) = refl
rule_head rewrite_bot = refl
rule_head rewrite_top = refl
rule_head (rewrite_and p q) = refl
rule_head (rewrite_or p q) = refl
rule_head (rewrite_ex p) = refl
rule_head (rewrite_iff p q) = refl

pub rule_left_side : {t v : Term} → Rewrites t v → (u : Term) × (t ≡ proof_of u)
rule_left_side (rewrite_imp p q) = (_, refl)
rule_left_side (rewrite_not p) = (_, refl)
rule_left_side (rewrite_all p) = (_, refl)
rule_left_side rewrite_bot = (_, refl)
rule_left_side rewrite_top = (_, refl)
rule_left_side (rewrite_and p q) = (_, refl)
rule_left_side (rewrite_or p q) = (_, refl)
rule_left_side (rewrite_ex p) = (_, refl)
rule_left_side (rewrite_iff p q) = (_, refl)

-- a root step and a parallel one meet in the development
parallel_past_root : {t u v t' u' : Term} → RootStep (app t u) v → ParallelStep t t' → ParallelStep u u' → ParallelStep v (developed_application t' u')
parallel_past_root (root_beta a t u) h k = let i = parallel_of_lam h in rw (i.2) (parallel_instantiates i.4 k)
parallel_past_root {t = t} {u = u} {v = v} {t' = t'} (root_rule r) h k =
    let e = rule_head r in
    let f = parallel_of_con (subst (λ x. ParallelStep x t') e h) in
    rw f (parallel_rule (subst (λ x. Rewrites (app x u) v) e r) k)

-- each reduct comes to the whole development
pub triangle : {t u : Term} → ParallelStep t u → ParallelStep u (developed t)
triangle parallel_type = parallel_type
triangle parallel_kind = parallel_kind
triangle (parallel_con s) = parallel_con s
triangle (parallel_pat x) = parallel_pat x
triangle (parallel_var n) = parallel_var n
triangle (parallel_app h k) = parallel_developed (triangle h) (triangle k)
triangle (parallel_lam h k) = parallel_lam (triangle h) (triangle k)
triangle (parallel_pi h k) = parallel_pi (triangle h) (triangle k)
triangle (parallel_reduced h k l) = parallel_past_root l (triangle h) (triangle k)

-- two parallel steps of one term meet
pub diamond : {t u v : Term} → ParallelStep t u → ParallelStep t v → (w : Term) × ParallelStep u w × ParallelStep v w
diamond {t = t} h k = (developed t, triangle h, triangle k)
