-- Typing rules of falsity, conjunction and the universal quantifier.
use Rattle.std.proofs.Common.{◌≡◌, ℕ, suc, List, ◌∷◌, ap, ap₂, ◌∙◌}
use Rattle.lp_term.specs.Names.{all_name, and_name, any_name, ex_name, iff_name, prf_name}
use Rattle.lp_term.specs.LambdaPi.{Term, app, con, for_last, instantiate, lam, pi, rename, shift, type, var}
use Rattle.lp_term.specs.Connectives.{all, and, arrow, bot, ex, iff, individuals, proof_of, propositions, top}
use Rattle.lp_term.specs.Conversion.{Convertible, conv_app, conv_beta, conv_refl, rewrite_all, rewrite_and, rewrite_bot}
use Rattle.lp_term.specs.Typing.{Declaration, Declares, HasType, declared_here, declared_later, has_app, has_con, has_conv, has_lam, has_pi, sort_type}
use Rattle.lp_term.specs.Signature.{Extends}
use Rattle.lp_term.specs.ProofTerms.{pair_term}
use Rattle.lp_term.proofs.SubstitutionLaws.{instantiate_shift, shift_rename}
use Rattle.lp_term.proofs.ConversionLaws.{substitute_arrow}
use Rattle.lp_term.proofs.TypingLaws.{types_instantiate, weaken}
use Rattle.lp_term.proofs.ConnectiveRules.{arrow_app, arrow_lam, arrow_type, bot_con, closed_of, fold_rule, last, prf_type, prop_type, unfold_rule}
use Rattle.lp_term.proofs.PreludeLaws.{of_prelude}

pub rename_arrow : (r : ℕ → ℕ) (a b : Term) → rename r (arrow a b) ≡ arrow (rename r a) (rename r b)
rename_arrow r a b = ap (pi (rename r a)) (shift_rename r b)

module _ (sig : List Declaration) (e : Extends sig) where
  -- one more variable
  pub weakened : {g : List Term} {t a : Term} (b : Term) → HasType sig g t a → HasType sig (b ∷ g) (shift t) (shift a)
  weakened b h = weaken b (closed_of e) h

  pub i_type : (g : List Term) → HasType sig g individuals type
  i_type g = has_con g (of_prelude e (declared_here _ _))

  pub and_con : (g : List Term) → HasType sig g (con and_name) (arrow propositions (arrow propositions propositions))
  and_con g = has_con g (of_prelude e (declared_later _ (declared_later _ (declared_later _ (declared_later _ (declared_here _ _))))))

  pub all_con : (g : List Term) → HasType sig g (con all_name) (arrow (arrow individuals propositions) propositions)
  all_con g = has_con g (of_prelude e (declared_later _ (declared_later _ (declared_later _ (declared_later _ (declared_later _ (declared_later _ (declared_later _ (declared_later _ (declared_later _ (declared_later _ (declared_here _ _))))))))))))

  pub ex_con : (g : List Term) → HasType sig g (con ex_name) (arrow (arrow individuals propositions) propositions)
  ex_con g = has_con g (of_prelude e (declared_later _ (declared_later _ (declared_later _ (declared_later _ (declared_later _ (declared_later _ (declared_later _ (declared_later _ (declared_later _ (declared_later _ (declared_later _ (declared_here _ _)))))))))))))

  pub top_con : (g : List Term) → HasType sig g top propositions
  top_con g = has_con g (of_prelude e (declared_later _ (declared_later _ (declared_later _ (declared_later _ (declared_later _ (declared_later _ (declared_later _ (declared_later _ (declared_here _ _))))))))))

  pub any_declared : Declares sig any_name individuals
  any_declared = of_prelude e (declared_later _ (declared_later _ (declared_later _ (declared_later _ (declared_later _ (declared_later _ (declared_later _ (declared_later _ (declared_later _ (declared_later _ (declared_later _ (declared_later _ (declared_here _ _)))))))))))))

  pub any_con : (g : List Term) → HasType sig g (con any_name) individuals
  any_con g = has_con g any_declared

  pub iff_con : (g : List Term) → HasType sig g (con iff_name) (arrow propositions (arrow propositions propositions))
  iff_con g = has_con g (of_prelude e (declared_later _ (declared_later _ (declared_later _ (declared_later _ (declared_later _ (declared_later _ (declared_here _ _))))))))

  pub iff_prop : {g : List Term} {p q : Term} → HasType sig g p propositions → HasType sig g q propositions → HasType sig g (iff p q) propositions
  iff_prop {g = g} h k = arrow_app sig e (arrow_app sig e (iff_con g) h) k

  pub and_prop : {g : List Term} {p q : Term} → HasType sig g p propositions → HasType sig g q propositions → HasType sig g (and p q) propositions
  and_prop {g = g} h k = arrow_app sig e (arrow_app sig e (and_con g) h) k

  pub all_prop : {g : List Term} {f : Term} → HasType sig g f (arrow individuals propositions) → HasType sig g (all f) propositions
  all_prop {g = g} h = arrow_app sig e (all_con g) h

  pub ex_prop : {g : List Term} {f : Term} → HasType sig g f (arrow individuals propositions) → HasType sig g (ex f) propositions
  ex_prop {g = g} h = arrow_app sig e (ex_con g) h

  -- a type may be changed to a convertible one
  pub conv_type : {g : List Term} {t a b : Term} → Convertible a b → HasType sig g a type → HasType sig g b type → HasType sig g t a → HasType sig g t b
  conv_type c h k l = has_conv sort_type l c h k

  -- falsity
  pub bot_app : {g : List Term} {p t : Term} → HasType sig g t (proof_of bot) → HasType sig g p propositions → HasType sig g (app t p) (proof_of p)
  bot_app {g = g} ht hp =
      has_app (unfold_rule sig e rewrite_bot (prf_type sig e (bot_con sig e g)) (has_pi sort_type (prop_type sig e g) (prf_type sig e (last sig e propositions))) ht) hp

  -- conjunction
  and_arg : Term → Term → Term → Term
  and_arg p q c = arrow (proof_of p) (arrow (proof_of q) (proof_of c))

  and_arg_type : {g : List Term} {p q c : Term} → HasType sig g p propositions → HasType sig g q propositions → HasType sig g c propositions → HasType sig g (and_arg p q c) type
  unfolding and_arg
  and_arg_type hp hq hc = arrow_type sig e (prf_type sig e hp) (arrow_type sig e (prf_type sig e hq) (prf_type sig e hc))

  and_body_inst : (p q c : Term) → instantiate (arrow (and_arg (shift p) (shift q) (var 0)) (proof_of (var 0))) c ≡ arrow (and_arg p q c) (proof_of c)
  unfolding and_arg
  and_body_inst p q c =
      substitute_arrow (for_last c) (arrow (proof_of (shift p)) (arrow (proof_of (shift q)) (proof_of (var 0)))) (proof_of (var 0))
      ∙ ap (λ x. arrow x (proof_of c)) (substitute_arrow (for_last c) (proof_of (shift p)) (arrow (proof_of (shift q)) (proof_of (var 0)))
      ∙ ap₂ (λ x y. arrow (proof_of x) y) (instantiate_shift p c) (substitute_arrow (for_last c) (proof_of (shift q)) (proof_of (var 0)) ∙ ap (λ x. arrow (proof_of x) (proof_of c)) (instantiate_shift q c)))

  and_body_type : {g : List Term} {p q : Term} → HasType sig g p propositions → HasType sig g q propositions → HasType sig (propositions ∷ g) (arrow (and_arg (shift p) (shift q) (var 0)) (proof_of (var 0))) type
  and_body_type hp hq =
      arrow_type sig e (and_arg_type (weakened propositions hp) (weakened propositions hq) (last sig e propositions)) (prf_type sig e (last sig e propositions))

  pub and_at : {g : List Term} {p q c t : Term} → HasType sig g p propositions → HasType sig g q propositions → HasType sig g c propositions → HasType sig g t (proof_of (and p q)) → HasType sig g (app t c) (arrow (arrow (proof_of p) (arrow (proof_of q) (proof_of c))) (proof_of c))
  unfolding and_arg
  and_at {g = g} {p = p} {q = q} {c = c} hp hq hc ht =
      rw (and_body_inst p q c) at (has_app (unfold_rule sig e (rewrite_and p q) (prf_type sig e (and_prop hp hq)) (has_pi sort_type (prop_type sig e g) (and_body_type hp hq)) ht) hc)

  shift_and_arg : (p q c : Term) → shift (and_arg p q c) ≡ and_arg (shift p) (shift q) (shift c)
  unfolding and_arg
  shift_and_arg p q c =
      rename_arrow (λ n. suc n) (proof_of p) (arrow (proof_of q) (proof_of c)) ∙ ap (arrow (proof_of (shift p))) (rename_arrow (λ n. suc n) (proof_of q) (proof_of c))

  pub and_lam : {g : List Term} {p q a b : Term} → HasType sig g p propositions → HasType sig g q propositions → HasType sig g a (proof_of p) → HasType sig g b (proof_of q) → HasType sig g (pair_term p q a b) (proof_of (and p q))
  unfolding and_arg
  and_lam {g = g} {p = p} {q = q} {a = a} {b = b} hp hq ha hb =
      let k = and_arg (shift p) (shift q) (var 0) in
      let hk = and_arg_type (weakened propositions hp) (weakened propositions hq) (last sig e propositions) in
      let head : HasType sig (k ∷ propositions ∷ g) (var 0) (and_arg (shift (shift p)) (shift (shift q)) (var 1)) = rw shift_and_arg at (last sig e {g = propositions ∷ g} k) in
      let inner = arrow_app sig e (arrow_app sig e head (weakened k (weakened propositions ha))) (weakened k (weakened propositions hb)) in
      fold_rule sig e (rewrite_and p q) (prf_type sig e (and_prop hp hq)) (has_pi sort_type (prop_type sig e g) (and_body_type hp hq))
      (has_lam sort_type (has_pi sort_type (prop_type sig e g) (and_body_type hp hq)) (arrow_lam sig e hk (prf_type sig e (last sig e propositions)) inner))

  -- a formula with a variable for individuals, at a term
  pub at_term : {g : List Term} {b u : Term} → HasType sig (individuals ∷ g) b propositions → HasType sig g u individuals → HasType sig g (instantiate b u) propositions
  at_term hb hu = types_instantiate (closed_of e) hb hu

  pub fun_type : {g : List Term} {b : Term} → HasType sig (individuals ∷ g) b propositions → HasType sig g (lam individuals b) (arrow individuals propositions)
  fun_type {g = g} hb = has_lam sort_type (arrow_type sig e (i_type g) (prop_type sig e g)) hb

  pub fun_app : {g : List Term} {f u : Term} → HasType sig g f (arrow individuals propositions) → HasType sig g u individuals → HasType sig g (app f u) propositions
  fun_app hf hu = arrow_app sig e hf hu

  all_body_type : {g : List Term} {f : Term} → HasType sig g f (arrow individuals propositions) → HasType sig g (pi individuals (proof_of (app (shift f) (var 0)))) type
  all_body_type {g = g} {f = f} hf =
      has_pi sort_type (i_type g) (prf_type sig e (fun_app (weakened individuals hf) (last sig e individuals)))

  -- a universal formula at a term
  pub all_app : {g : List Term} {b t u : Term} → HasType sig (individuals ∷ g) b propositions → HasType sig g t (proof_of (all (lam individuals b))) → HasType sig g u individuals → HasType sig g (app t u) (proof_of (instantiate b u))
  all_app {g = g} {b = b} {u = u} hb ht hu =
      let f = lam individuals b in
      let hf = fun_type hb in
      let one = has_app (unfold_rule sig e (rewrite_all f) (prf_type sig e (all_prop hf)) (all_body_type hf) ht) hu in
      let two : HasType sig g (app _ u) (proof_of (app f u)) = rw (instantiate_shift f u) at one in
      conv_type (conv_app (conv_refl (con prf_name)) (conv_beta individuals b u)) (prf_type sig e (fun_app hf hu)) (prf_type sig e (at_term hb hu)) two
