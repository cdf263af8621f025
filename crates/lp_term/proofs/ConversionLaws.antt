-- Rules and conversion under renaming and substitution.
use Rattle.std.proofs.Common.{◌≡◌, ℕ, ap, ap₂, ◌∙◌}
use Rattle.lp_term.specs.LambdaPi.{Term, pi, rename, shift, substitute, under_binder, var}
use Rattle.lp_term.specs.Connectives.{arrow, proof_of}
use Rattle.lp_term.specs.Conversion.{Convertible, Rewrites, conv_app, conv_beta, conv_lam, conv_pi, conv_refl, conv_rule, conv_sym, conv_trans, rewrite_all, rewrite_and, rewrite_bot, rewrite_ex, rewrite_iff, rewrite_imp, rewrite_not, rewrite_or, rewrite_top}
use Rattle.lp_term.proofs.SubstitutionLaws.{rename_is_substitute, shift_substitute, substitute_instantiate}

pub substitute_arrow : (s : ℕ → Term) (a b : Term) → substitute s (arrow a b) ≡ arrow (substitute s a) (substitute s b)
substitute_arrow s a b = ap (pi (substitute s a)) (shift_substitute s b)

pub substitute_iff : (s : ℕ → Term) (p q v : Term) → substitute s (arrow (arrow (arrow (proof_of p) (proof_of q)) (arrow (arrow (proof_of q) (proof_of p)) (proof_of v))) (proof_of v)) ≡ arrow (arrow (arrow (proof_of (substitute s p)) (proof_of (substitute s q))) (arrow (arrow (proof_of (substitute s q)) (proof_of (substitute s p))) (proof_of (substitute s v)))) (proof_of (substitute s v))
substitute_iff s p q v =
    substitute_arrow s (arrow (arrow (proof_of p) (proof_of q)) (arrow (arrow (proof_of q) (proof_of p)) (proof_of v))) (proof_of v)
    ∙ ap (λ x. arrow x (proof_of (substitute s v)))
    (substitute_arrow s (arrow (proof_of p) (proof_of q)) (arrow (arrow (proof_of q) (proof_of p)) (proof_of v))
    ∙ ap₂ arrow (substitute_arrow s (proof_of p) (proof_of q)) (substitute_arrow s (arrow (proof_of q) (proof_of p)) (proof_of v) ∙ ap (λ x. arrow x (proof_of (substitute s v))) (substitute_arrow s (proof_of q) (proof_of p))))

-- a rule holds after a substitution
pub rewrites_substitute : {t u : Term} (s : ℕ → Term) → Rewrites t u → Rewrites (substitute s t) (substitute s u)
rewrites_substitute s (rewrite_imp p q) = rw shift_substitute (rewrite_imp (substitute s p) (substitute s q))
rewrites_substitute s (rewrite_not p) = rewrite_not (substitute s p)
rewrites_substitute s (rewrite_all f) = rw shift_substitute (rewrite_all (substitute s f))
rewrites_substitute s rewrite_bot = rewrite_bot
rewrites_substitute s rewrite_top = rewrite_top
rewrites_substitute s (rewrite_and p q) = simp shift_substitute (rewrite_and (substitute s p) (substitute s q))
rewrites_substitute s (rewrite_or p q) = simp shift_substitute (rewrite_or (substitute s p) (substitute s q))
rewrites_substitute s (rewrite_ex f) = simp shift_substitute (rewrite_ex (substitute s f))
rewrites_substitute s (rewrite_iff p q) =
    rw (substitute_iff (under_binder s) (shift p) (shift q) (var 0), shift_substitute s p, shift_substitute s q) (rewrite_iff (substitute s p) (substitute s q))

pub convertible_substitute : {t u : Term} (s : ℕ → Term) → Convertible t u → Convertible (substitute s t) (substitute s u)
convertible_substitute s (conv_refl t) = conv_refl (substitute s t)
convertible_substitute s (conv_sym h) = conv_sym (convertible_substitute s h)
convertible_substitute s (conv_trans h k) = conv_trans (convertible_substitute s h) (convertible_substitute s k)
convertible_substitute s (conv_app h k) = conv_app (convertible_substitute s h) (convertible_substitute s k)
convertible_substitute s (conv_lam h k) = conv_lam (convertible_substitute s h) (convertible_substitute (under_binder s) k)
convertible_substitute s (conv_pi h k) = conv_pi (convertible_substitute s h) (convertible_substitute (under_binder s) k)
convertible_substitute s (conv_beta a t u) = rw substitute_instantiate (conv_beta (substitute s a) (substitute (under_binder s) t) (substitute s u))
convertible_substitute s (conv_rule h) = conv_rule (rewrites_substitute s h)

pub convertible_rename : {t u : Term} (r : ℕ → ℕ) → Convertible t u → Convertible (rename r t) (rename r u)
convertible_rename {t} {u} r h = rw (rename_is_substitute t r, rename_is_substitute u r) (convertible_substitute (λ n. var (r n)) h)
