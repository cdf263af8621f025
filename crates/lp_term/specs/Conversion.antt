-- The nine rules, and conversion (lambda-Pi-calculus modulo rewriting).
use Rattle.lp_term.specs.LambdaPi.{Term, app, instantiate, lam, pi, shift, var}
use Rattle.lp_term.specs.Connectives.{all, and, arrow, bot, ex, iff, imp, individuals, neg, or, proof_of, propositions, top}

-- one of the nine rules at any terms
pub data Rewrites : Term → Term → Type 0 where
  rewrite_imp : (p q : Term) → Rewrites (proof_of (imp p q)) (arrow (proof_of p) (proof_of q))
  rewrite_not : (p : Term) → Rewrites (proof_of (neg p)) (arrow (proof_of p) (proof_of bot))
  rewrite_all : (f : Term) → Rewrites (proof_of (all f)) (pi individuals (proof_of (app (shift f) (var 0))))
  rewrite_bot : Rewrites (proof_of bot) (pi propositions (proof_of (var 0)))
  rewrite_top : Rewrites (proof_of top) (pi propositions (arrow (proof_of (var 0)) (proof_of (var 0))))
  rewrite_and : (p q : Term) → Rewrites (proof_of (and p q)) (pi propositions (arrow (arrow (proof_of (shift p)) (arrow (proof_of (shift q)) (proof_of (var 0)))) (proof_of (var 0))))
  rewrite_or : (p q : Term) → Rewrites (proof_of (or p q)) (pi propositions (arrow (arrow (proof_of (shift p)) (proof_of (var 0))) (arrow (arrow (proof_of (shift q)) (proof_of (var 0))) (proof_of (var 0)))))
  rewrite_ex : (f : Term) → Rewrites (proof_of (ex f)) (pi propositions (arrow (pi individuals (arrow (proof_of (app (shift (shift f)) (var 0))) (proof_of (var 1)))) (proof_of (var 0))))
  rewrite_iff : (p q : Term) → Rewrites (proof_of (iff p q)) (pi propositions (arrow (arrow (arrow (proof_of (shift p)) (proof_of (shift q))) (arrow (arrow (proof_of (shift q)) (proof_of (shift p))) (proof_of (var 0)))) (proof_of (var 0))))

-- conversion: the least equivalence closed under the constructors, with beta and the rules
pub data Convertible : Term → Term → Type 0 where
  conv_refl : (t : Term) → Convertible t t
  conv_sym : {t u : Term} → Convertible t u → Convertible u t
  conv_trans : {t u v : Term} → Convertible t u → Convertible u v → Convertible t v
  conv_app : {t t' u u' : Term} → Convertible t t' → Convertible u u' → Convertible (app t u) (app t' u')
  conv_lam : {a a' t t' : Term} → Convertible a a' → Convertible t t' → Convertible (lam a t) (lam a' t')
  conv_pi : {a a' b b' : Term} → Convertible a a' → Convertible b b' → Convertible (pi a b) (pi a' b')
  conv_beta : (a t u : Term) → Convertible (app (lam a t) u) (instantiate t u)
  conv_rule : {t u : Term} → Rewrites t u → Convertible t u
