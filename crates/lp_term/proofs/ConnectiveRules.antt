-- Typing rules of negation, implication, disjunction and the excluded middle, from the nine rules.
use Rattle.std.proofs.Common.{◌≡◌, ℕ, List, ◌∷◌, ap, ap₂, ◌∙◌}
use Rattle.lp_term.specs.Names.{em_name, imp_name, not_name, or_name, prf_name}
use Rattle.lp_term.specs.LambdaPi.{Term, app, con, for_last, instantiate, lam, pi, shift, substitute, type, var}
use Rattle.lp_term.specs.Connectives.{arrow, bot, imp, neg, or, proof_of, propositions}
use Rattle.lp_term.specs.Conversion.{Rewrites, conv_rule, conv_sym, rewrite_imp, rewrite_not, rewrite_or}
use Rattle.lp_term.specs.Typing.{Declaration, HasType, declared_here, declared_later, given_here, has_app, has_con, has_conv, has_lam, has_pi, has_var, sort_type}
use Rattle.lp_term.specs.Signature.{Extends}
use Rattle.lp_term.specs.ProofTerms.{contradiction}
use Rattle.lp_term.proofs.SubstitutionLaws.{instantiate_shift}
use Rattle.lp_term.proofs.ConversionLaws.{substitute_arrow}
use Rattle.lp_term.proofs.TypingLaws.{Closed, weaken}
use Rattle.lp_term.proofs.PreludeLaws.{of_prelude}

pub closed_of : {sig : List Declaration} → Extends sig → Closed sig
closed_of e = record { substitute_same = e.closed }

module _ (sig : List Declaration) (e : Extends sig) where
  -- a non-dependent product
  pub arrow_type : {g : List Term} {a b : Term} → HasType sig g a type → HasType sig g b type → HasType sig g (arrow a b) type
  arrow_type {a = a} h k = has_pi sort_type h (weaken a (closed_of e) k)

  pub arrow_app : {g : List Term} {a b t u : Term} → HasType sig g t (arrow a b) → HasType sig g u a → HasType sig g (app t u) b
  arrow_app {b = b} {u = u} h k = rw (instantiate_shift b u) at (has_app h k)

  pub arrow_lam : {g : List Term} {a b t : Term} → HasType sig g a type → HasType sig g b type → HasType sig (a ∷ g) t (shift b) → HasType sig g (lam a t) (arrow a b)
  arrow_lam h k l = has_lam sort_type (arrow_type h k) l

  pub prop_type : (g : List Term) → HasType sig g propositions type
  prop_type g = has_con g (of_prelude e (declared_later _ (declared_here _ _)))

  pub prf_con : (g : List Term) → HasType sig g (con prf_name) (arrow propositions type)
  prf_con g = has_con g (of_prelude e (declared_later _ (declared_later _ (declared_here _ _))))

  pub imp_con : (g : List Term) → HasType sig g (con imp_name) (arrow propositions (arrow propositions propositions))
  imp_con g = has_con g (of_prelude e (declared_later _ (declared_later _ (declared_later _ (declared_here _ _)))))

  pub or_con : (g : List Term) → HasType sig g (con or_name) (arrow propositions (arrow propositions propositions))
  or_con g = has_con g (of_prelude e (declared_later _ (declared_later _ (declared_later _ (declared_later _ (declared_later _ (declared_here _ _)))))))

  pub neg_con : (g : List Term) → HasType sig g (con not_name) (arrow propositions propositions)
  neg_con g = has_con g (of_prelude e (declared_later _ (declared_later _ (declared_later _ (declared_later _ (declared_later _ (declared_later _ (declared_later _ (declared_here _ _)))))))))

  pub bot_con : (g : List Term) → HasType sig g bot propositions
  bot_con g = has_con g (of_prelude e (declared_later _ (declared_later _ (declared_later _ (declared_later _ (declared_later _ (declared_later _ (declared_later _ (declared_later _ (declared_later _ (declared_here _ _)))))))))))

  pub em_con : (g : List Term) → HasType sig g (con em_name) (pi propositions (proof_of (or (var 0) (neg (var 0)))))
  em_con g = has_con g (of_prelude e (declared_later _ (declared_later _ (declared_later _ (declared_later _ (declared_later _ (declared_later _ (declared_later _ (declared_later _ (declared_later _ (declared_later _ (declared_later _ (declared_later _ (declared_later _ (declared_here _ _)))))))))))))))

  pub prf_type : {g : List Term} {p : Term} → HasType sig g p propositions → HasType sig g (proof_of p) type
  prf_type {g = g} h = has_app (prf_con g) h

  pub neg_prop : {g : List Term} {p : Term} → HasType sig g p propositions → HasType sig g (neg p) propositions
  neg_prop {g = g} h = has_app (neg_con g) h

  pub or_prop : {g : List Term} {p q : Term} → HasType sig g p propositions → HasType sig g q propositions → HasType sig g (or p q) propositions
  or_prop {g = g} h k = arrow_app (arrow_app (or_con g) h) k

  pub imp_prop : {g : List Term} {p q : Term} → HasType sig g p propositions → HasType sig g q propositions → HasType sig g (imp p q) propositions
  imp_prop {g = g} h k = arrow_app (arrow_app (imp_con g) h) k

  -- along a rule, both ways, where both sides have TYPE
  pub unfold_rule : {g : List Term} {t a b : Term} → Rewrites a b → HasType sig g a type → HasType sig g b type → HasType sig g t a → HasType sig g t b
  unfold_rule r h k l = has_conv sort_type l (conv_rule r) h k

  pub fold_rule : {g : List Term} {t a b : Term} → Rewrites a b → HasType sig g a type → HasType sig g b type → HasType sig g t b → HasType sig g t a
  fold_rule r h k l = has_conv sort_type l (conv_sym (conv_rule r)) k h

  -- negation
  pub neg_app : {g : List Term} {p t u : Term} → HasType sig g p propositions → HasType sig g t (proof_of (neg p)) → HasType sig g u (proof_of p) → HasType sig g (app t u) (proof_of bot)
  neg_app {g = g} {p = p} hp ht hu =
      arrow_app (unfold_rule (rewrite_not p) (prf_type (neg_prop hp)) (arrow_type (prf_type hp) (prf_type (bot_con g))) ht) hu

  pub neg_lam : {g : List Term} {p t : Term} → HasType sig g p propositions → HasType sig (proof_of p ∷ g) t (proof_of bot) → HasType sig g (lam (proof_of p) t) (proof_of (neg p))
  neg_lam {g = g} {p = p} hp ht =
      let b = arrow_type (prf_type hp) (prf_type (bot_con g)) in
      fold_rule (rewrite_not p) (prf_type (neg_prop hp)) b (arrow_lam (prf_type hp) (prf_type (bot_con g)) ht)

  -- implication
  pub imp_app : {g : List Term} {p q t u : Term} → HasType sig g p propositions → HasType sig g q propositions → HasType sig g t (proof_of (imp p q)) → HasType sig g u (proof_of p) → HasType sig g (app t u) (proof_of q)
  imp_app {p = p} {q = q} hp hq ht hu =
      arrow_app (unfold_rule (rewrite_imp p q) (prf_type (imp_prop hp hq)) (arrow_type (prf_type hp) (prf_type hq)) ht) hu

  pub imp_lam : {g : List Term} {p q t : Term} → HasType sig g p propositions → HasType sig g q propositions → HasType sig (proof_of p ∷ g) t (proof_of (shift q)) → HasType sig g (lam (proof_of p) t) (proof_of (imp p q))
  imp_lam {p = p} {q = q} hp hq ht =
      fold_rule (rewrite_imp p q) (prf_type (imp_prop hp hq)) (arrow_type (prf_type hp) (prf_type hq)) (arrow_lam (prf_type hp) (prf_type hq) ht)

  -- the variable bound last
  pub last : {g : List Term} (a : Term) → HasType sig (a ∷ g) (var 0) (shift a)
  last {g = g} a = has_var (given_here g a)

  -- disjunction
  or_body : Term → Term → Term → Term
  or_body p q c = arrow (arrow (proof_of p) (proof_of c)) (arrow (arrow (proof_of q) (proof_of c)) (proof_of c))

  or_body_type : {g : List Term} {p q c : Term} → HasType sig g p propositions → HasType sig g q propositions → HasType sig g c propositions → HasType sig g (or_body p q c) type
  unfolding or_body
  or_body_type hp hq hc =
      arrow_type (arrow_type (prf_type hp) (prf_type hc)) (arrow_type (arrow_type (prf_type hq) (prf_type hc)) (prf_type hc))

  or_body_sub : (s : ℕ → Term) (p q c : Term) → substitute s (or_body p q c) ≡ or_body (substitute s p) (substitute s q) (substitute s c)
  unfolding or_body
  or_body_sub s p q c =
      substitute_arrow s (arrow (proof_of p) (proof_of c)) (arrow (arrow (proof_of q) (proof_of c)) (proof_of c))
      ∙ ap₂ arrow (substitute_arrow s (proof_of p) (proof_of c)) (substitute_arrow s (arrow (proof_of q) (proof_of c)) (proof_of c) ∙ ap (λ x. arrow x (proof_of (substitute s c))) (substitute_arrow s (proof_of q) (proof_of c)))

  or_body_inst : (p q c : Term) → instantiate (or_body (shift p) (shift q) (var 0)) c ≡ or_body p q c
  or_body_inst p q c = or_body_sub (for_last c) (shift p) (shift q) (var 0) ∙ ap₂ (λ x y. or_body x y c) (instantiate_shift p c) (instantiate_shift q c)

  pub or_at : {g : List Term} {p q c t : Term} → HasType sig g p propositions → HasType sig g q propositions → HasType sig g c propositions → HasType sig g t (proof_of (or p q)) → HasType sig g (app t c) (arrow (arrow (proof_of p) (proof_of c)) (arrow (arrow (proof_of q) (proof_of c)) (proof_of c)))
  unfolding or_body
  or_at {g = g} {p = p} {q = q} {c = c} hp hq hc ht =
      let w = closed_of e in
      let body = or_body_type (weaken propositions w hp) (weaken propositions w hq) (last propositions) in
      rw (or_body_inst p q c) at (has_app (unfold_rule (rewrite_or p q) (prf_type (or_prop hp hq)) (has_pi sort_type (prop_type g) body) ht) hc)

  pub or_elim : {g : List Term} {p q c t l r : Term} → HasType sig g p propositions → HasType sig g q propositions → HasType sig g c propositions → HasType sig g t (proof_of (or p q)) → HasType sig g l (arrow (proof_of p) (proof_of c)) → HasType sig g r (arrow (proof_of q) (proof_of c)) → HasType sig g (app (app (app t c) l) r) (proof_of c)
  or_elim hp hq hc ht hl hr = arrow_app (arrow_app (or_at hp hq hc ht) hl) hr

  pub em_at : {g : List Term} {c : Term} → HasType sig g c propositions → HasType sig g (app (con em_name) c) (proof_of (or c (neg c)))
  em_at {g = g} hc = has_app (em_con g) hc

  -- what is proved from its own negation
  pub contradict_types : {g : List Term} {c remaining : Term} → HasType sig g c propositions → HasType sig (proof_of (neg c) ∷ g) remaining (shift (proof_of c)) → HasType sig g (contradiction c remaining) (proof_of c)
  contradict_types {c = c} hc h =
      or_elim hc (neg_prop hc) hc (em_at hc) (arrow_lam (prf_type hc) (prf_type hc) (last (proof_of c))) (arrow_lam (prf_type (neg_prop hc)) (prf_type hc) h)
