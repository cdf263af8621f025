-- Typing rules of truth, of equivalence and of the existential quantifier, and introductions.
use Rattle.std.proofs.Common.{◌≡◌, ℕ, zero, suc, List, ◌∷◌, refl, sym, ap, ap₂, ◌∙◌, subst}
use Rattle.lp_term.specs.Names.{prf_name}
use Rattle.lp_term.specs.LambdaPi.{Term, app, con, for_last, instantiate, lam, pi, rename, shift, substitute, type, under_binder, under_renaming, var}
use Rattle.lp_term.specs.Connectives.{all, arrow, ex, iff, imp, individuals, or, proof_of, propositions, top}
use Rattle.lp_term.specs.Conversion.{Convertible, conv_app, conv_beta, conv_pi, conv_refl, conv_rule, conv_sym, rewrite_all, rewrite_ex, rewrite_iff, rewrite_imp, rewrite_or, rewrite_top}
use Rattle.lp_term.specs.Typing.{Declaration, HasType, has_app, has_lam, has_pi, sort_type}
use Rattle.lp_term.specs.Signature.{Extends}
use Rattle.lp_term.specs.ProofTerms.{ex_term, iff_arg, iff_term, left_term, right_term, top_term}
use Rattle.lp_term.proofs.SubstitutionLaws.{ext, instantiate_shift, rename_instantiate, shift_substitute, substitute_rename, substitute_var}
use Rattle.lp_term.proofs.ConversionLaws.{convertible_rename, substitute_arrow, substitute_iff}
use Rattle.lp_term.proofs.TypingLaws.{renames_suc, renames_under, retype, types_rename}
use Rattle.lp_term.proofs.ConnectiveRules.{arrow_app, arrow_lam, arrow_type, closed_of, fold_rule, imp_prop, last, or_prop, prf_type, prop_type, unfold_rule}
use Rattle.lp_term.proofs.QuantifierRules.{all_prop, conv_type, ex_prop, fun_app, fun_type, i_type, iff_prop, rename_arrow, top_con, weakened}

pub arrow_conv : {a a' b b' : Term} → Convertible a a' → Convertible b b' → Convertible (arrow a b) (arrow a' b')
arrow_conv h k = conv_pi h (convertible_rename (λ n. suc n) k)

up_at_zero : (n : ℕ) → for_last (var 0) (under_renaming (λ m. suc m) n) ≡ var n
up_at_zero zero = refl
up_at_zero (suc n) = refl

-- a body moved under a binder more, at that binder
pub inst_up_var : (b : Term) → instantiate (rename (under_renaming (λ n. suc n)) b) (var 0) ≡ b
inst_up_var b = substitute_rename b (for_last (var 0)) (under_renaming (λ n. suc n)) ∙ ap (λ f. substitute f b) (ext up_at_zero) ∙ substitute_var b

-- a function of individuals at the variable bound last
pub beta_last : (b : Term) → Convertible (app (shift (lam individuals b)) (var 0)) b
beta_last b = subst (λ y. Convertible (app (shift (lam individuals b)) (var 0)) y) (inst_up_var b) (conv_beta individuals (rename (under_renaming (λ n. suc n)) b) (var 0))

-- the type of k u, where k takes an individual and a proof of b
k_inst : (b u : Term) → instantiate (rename (under_renaming (λ n. suc n)) (arrow (proof_of (rename (under_renaming (λ n. suc n)) b)) (proof_of (var 1)))) (shift (shift u)) ≡ arrow (proof_of (shift (shift (instantiate b u)))) (proof_of (var 1))
k_inst b u =
    let b1 = rename (under_renaming (λ n. suc n)) b in
    ap (λ y. instantiate y (shift (shift u))) (rename_arrow (under_renaming (λ n. suc n)) (proof_of b1) (proof_of (var 1)))
    ∙ substitute_arrow (for_last (shift (shift u))) (proof_of (rename (under_renaming (λ n. suc n)) b1)) (proof_of (var 2))
    ∙ ap (λ y. arrow (proof_of y) (proof_of (var 1))) (sym (rename_instantiate (λ n. suc n) b1 (shift u)) ∙ ap shift (sym (rename_instantiate (λ n. suc n) b u)))

module _ (sig : List Declaration) (e : Extends sig) where
  -- a body of a quantifier below one more variable outside
  pub body_shift : {g : List Term} {b c : Term} → HasType sig (individuals ∷ g) b propositions → HasType sig (individuals ∷ c ∷ g) (rename (under_renaming (λ n. suc n)) b) propositions
  body_shift {g = g} {c = c} h = types_rename (individuals ∷ c ∷ g) (under_renaming (λ n. suc n)) (closed_of e) (renames_under (λ n. suc n) individuals (renames_suc g c)) h

  -- truth
  pub top_lam : (g : List Term) → HasType sig g top_term (proof_of top)
  top_lam g =
      let hv = prf_type sig e (last sig e {g = g} propositions) in
      let body = has_pi sort_type (prop_type sig e g) (arrow_type sig e hv hv) in
      fold_rule sig e rewrite_top (prf_type sig e (top_con sig e g)) body (has_lam sort_type body (arrow_lam sig e hv hv (last sig e (proof_of (var 0)))))

  -- disjunction
  or_rule_type : {g : List Term} {p q : Term} → HasType sig g p propositions → HasType sig g q propositions → HasType sig g (pi propositions (arrow (arrow (proof_of (shift p)) (proof_of (var 0))) (arrow (arrow (proof_of (shift q)) (proof_of (var 0))) (proof_of (var 0))))) type
  or_rule_type {g = g} hp hq =
      let hc = prf_type sig e (last sig e {g = g} propositions) in
      has_pi sort_type (prop_type sig e g) (arrow_type sig e (arrow_type sig e (prf_type sig e (weakened sig e propositions hp)) hc) (arrow_type sig e (arrow_type sig e (prf_type sig e (weakened sig e propositions hq)) hc) hc))

  left_under : {g : List Term} {p q c a : Term} → HasType sig g p type → HasType sig g q type → HasType sig g c type → HasType sig g a p → HasType sig g (lam (arrow p c) (lam (shift (arrow q c)) (app (var 1) (shift (shift a))))) (arrow (arrow p c) (arrow (arrow q c) c))
  left_under {g = g} {p = p} {q = q} {c = c} hp hq hc ha =
      let k = arrow p c in
      let l = arrow q c in
      let hk = arrow_type sig e hp hc in
      let hl = arrow_type sig e hq hc in
      let one : HasType sig (shift l ∷ k ∷ g) (var 1) (arrow (shift (shift p)) (shift (shift c))) =
      retype (ap shift (rename_arrow (λ n. suc n) p c) ∙ rename_arrow (λ n. suc n) (shift p) (shift c)) (weakened sig e (shift l) (last sig e {g = g} k)) in
      arrow_lam sig e hk (arrow_type sig e hl hc)
      (retype (sym (rename_arrow (λ n. suc n) l c))
      (arrow_lam sig e (weakened sig e k hl) (weakened sig e k hc) (arrow_app sig e one (weakened sig e (shift l) (weakened sig e k ha)))))

  right_under : {g : List Term} {p q c a : Term} → HasType sig g p type → HasType sig g q type → HasType sig g c type → HasType sig g a q → HasType sig g (lam (arrow p c) (lam (shift (arrow q c)) (app (var 0) (shift (shift a))))) (arrow (arrow p c) (arrow (arrow q c) c))
  right_under {g = g} {p = p} {q = q} {c = c} hp hq hc ha =
      let k = arrow p c in
      let l = arrow q c in
      let hk = arrow_type sig e hp hc in
      let hl = arrow_type sig e hq hc in
      let one : HasType sig (shift l ∷ k ∷ g) (var 0) (arrow (shift (shift q)) (shift (shift c))) =
      retype (ap shift (rename_arrow (λ n. suc n) q c) ∙ rename_arrow (λ n. suc n) (shift q) (shift c)) (last sig e {g = k ∷ g} (shift l)) in
      arrow_lam sig e hk (arrow_type sig e hl hc)
      (retype (sym (rename_arrow (λ n. suc n) l c))
      (arrow_lam sig e (weakened sig e k hl) (weakened sig e k hc) (arrow_app sig e one (weakened sig e (shift l) (weakened sig e k ha)))))

  pub left_lam : {g : List Term} {p q a : Term} → HasType sig g p propositions → HasType sig g q propositions → HasType sig g a (proof_of p) → HasType sig g (left_term p q a) (proof_of (or p q))
  left_lam {g = g} {p = p} {q = q} hp hq ha =
      let hc = prf_type sig e (last sig e {g = g} propositions) in
      let body = or_rule_type hp hq in
      fold_rule sig e (rewrite_or p q) (prf_type sig e (or_prop sig e hp hq)) body
      (has_lam sort_type body (left_under (prf_type sig e (weakened sig e propositions hp)) (prf_type sig e (weakened sig e propositions hq)) hc (weakened sig e propositions ha)))

  pub right_lam : {g : List Term} {p q a : Term} → HasType sig g p propositions → HasType sig g q propositions → HasType sig g a (proof_of q) → HasType sig g (right_term p q a) (proof_of (or p q))
  right_lam {g = g} {p = p} {q = q} hp hq ha =
      let hc = prf_type sig e (last sig e {g = g} propositions) in
      let body = or_rule_type hp hq in
      fold_rule sig e (rewrite_or p q) (prf_type sig e (or_prop sig e hp hq)) body
      (has_lam sort_type body (right_under (prf_type sig e (weakened sig e propositions hp)) (prf_type sig e (weakened sig e propositions hq)) hc (weakened sig e propositions ha)))

  -- equivalence
  iff_arg_type : {g : List Term} {p q c : Term} → HasType sig g p propositions → HasType sig g q propositions → HasType sig g c propositions → HasType sig g (iff_arg p q c) type
  iff_arg_type hp hq hc =
      let tp = prf_type sig e hp in
      let tq = prf_type sig e hq in
      arrow_type sig e (arrow_type sig e tp tq) (arrow_type sig e (arrow_type sig e tq tp) (prf_type sig e hc))

  iff_rule_type : {g : List Term} {p q : Term} → HasType sig g p propositions → HasType sig g q propositions → HasType sig g (pi propositions (arrow (iff_arg (shift p) (shift q) (var 0)) (proof_of (var 0)))) type
  iff_rule_type {g = g} hp hq =
      let hc = last sig e {g = g} propositions in
      has_pi sort_type (prop_type sig e g) (arrow_type sig e (iff_arg_type (weakened sig e propositions hp) (weakened sig e propositions hq) hc) (prf_type sig e hc))

  iff_inst : (p q c : Term) → instantiate (arrow (iff_arg (shift p) (shift q) (var 0)) (proof_of (var 0))) c ≡ arrow (iff_arg p q c) (proof_of c)
  iff_inst p q c = substitute_iff (for_last c) (shift p) (shift q) (var 0) ∙ ap₂ (λ y z. arrow (iff_arg y z c) (proof_of c)) (instantiate_shift p c) (instantiate_shift q c)

  -- from an equivalence, whose two halves are taken as implications
  pub iff_elim : {g : List Term} {p q c t k : Term} → HasType sig g p propositions → HasType sig g q propositions → HasType sig g c propositions → HasType sig g t (proof_of (iff p q))
      → HasType sig g k (arrow (proof_of (imp p q)) (arrow (proof_of (imp q p)) (proof_of c))) → HasType sig g (app (app t c) k) (proof_of c)
  iff_elim {g = g} {p = p} {q = q} {c = c} hp hq hc ht hk =
      let one = rw (iff_inst p q c) at (has_app (unfold_rule sig e (rewrite_iff p q) (prf_type sig e (iff_prop sig e hp hq)) (iff_rule_type hp hq) ht) hc) in
      let wide = arrow_type sig e (prf_type sig e (imp_prop sig e hp hq)) (arrow_type sig e (prf_type sig e (imp_prop sig e hq hp)) (prf_type sig e hc)) in
      arrow_app sig e one
      (conv_type sig e (arrow_conv (conv_rule (rewrite_imp p q)) (arrow_conv (conv_rule (rewrite_imp q p)) (conv_refl (proof_of c)))) wide (iff_arg_type hp hq hc) hk)

  shift_iff_arg : (p q c : Term) → shift (iff_arg p q c) ≡ iff_arg (shift p) (shift q) (shift c)
  shift_iff_arg p q c =
      rename_arrow (λ n. suc n) (arrow (proof_of p) (proof_of q)) (arrow (arrow (proof_of q) (proof_of p)) (proof_of c))
      ∙ ap₂ arrow (rename_arrow (λ n. suc n) (proof_of p) (proof_of q)) (rename_arrow (λ n. suc n) (arrow (proof_of q) (proof_of p)) (proof_of c) ∙ ap (λ y. arrow y (proof_of (shift c))) (rename_arrow (λ n. suc n) (proof_of q) (proof_of p)))

  pub iff_lam : {g : List Term} {p q a b : Term} → HasType sig g p propositions → HasType sig g q propositions
      → HasType sig (iff_arg (shift p) (shift q) (var 0) ∷ propositions ∷ g) a (arrow (proof_of (shift (shift p))) (proof_of (shift (shift q))))
      → HasType sig (iff_arg (shift p) (shift q) (var 0) ∷ propositions ∷ g) b (arrow (proof_of (shift (shift q))) (proof_of (shift (shift p))))
      → HasType sig g (iff_term p q a b) (proof_of (iff p q))
  iff_lam {g = g} {p = p} {q = q} hp hq ha hb =
      let k = iff_arg (shift p) (shift q) (var 0) in
      let hc = last sig e {g = g} propositions in
      let hk = iff_arg_type (weakened sig e propositions hp) (weakened sig e propositions hq) hc in
      let head = rw (shift_iff_arg (shift p) (shift q) (var 0)) at (last sig e {g = propositions ∷ g} k) in
      let body = iff_rule_type hp hq in
      fold_rule sig e (rewrite_iff p q) (prf_type sig e (iff_prop sig e hp hq)) body
      (has_lam sort_type body (arrow_lam sig e hk (prf_type sig e hc) (arrow_app sig e (arrow_app sig e head ha) hb)))

  -- a universal formula
  all_rule_type : {g : List Term} {f : Term} → HasType sig g f (arrow individuals propositions) → HasType sig g (pi individuals (proof_of (app (shift f) (var 0)))) type
  all_rule_type {g = g} hf = has_pi sort_type (i_type sig e g) (prf_type sig e (fun_app sig e (weakened sig e individuals hf) (last sig e individuals)))

  pub all_intro : {g : List Term} {f t : Term} → HasType sig g f (arrow individuals propositions) → HasType sig (individuals ∷ g) t (proof_of (app (shift f) (var 0))) → HasType sig g (lam individuals t) (proof_of (all f))
  all_intro {f = f} hf ht =
      let body = all_rule_type hf in
      fold_rule sig e (rewrite_all f) (prf_type sig e (all_prop sig e hf)) body (has_lam sort_type body ht)

  -- an existential formula
  pub some_type : {g : List Term} {f c : Term} → HasType sig g f (arrow individuals propositions) → HasType sig g c propositions → HasType sig g (pi individuals (arrow (proof_of (app (shift f) (var 0))) (proof_of (shift c)))) type
  some_type {g = g} hf hc =
      has_pi sort_type (i_type sig e g) (arrow_type sig e (prf_type sig e (fun_app sig e (weakened sig e individuals hf) (last sig e individuals))) (prf_type sig e (weakened sig e individuals hc)))

  ex_rule_type : {g : List Term} {f : Term} → HasType sig g f (arrow individuals propositions) → HasType sig g (pi propositions (arrow (pi individuals (arrow (proof_of (app (shift (shift f)) (var 0))) (proof_of (var 1)))) (proof_of (var 0)))) type
  ex_rule_type {g = g} hf =
      let hc = last sig e {g = g} propositions in
      has_pi sort_type (prop_type sig e g) (arrow_type sig e (some_type (weakened sig e propositions hf) hc) (prf_type sig e hc))

  ex_inst : (f c : Term) → instantiate (arrow (pi individuals (arrow (proof_of (app (shift (shift f)) (var 0))) (proof_of (var 1)))) (proof_of (var 0))) c ≡ arrow (pi individuals (arrow (proof_of (app (shift f) (var 0))) (proof_of (shift c)))) (proof_of c)
  ex_inst f c =
      substitute_arrow (for_last c) (pi individuals (arrow (proof_of (app (shift (shift f)) (var 0))) (proof_of (var 1)))) (proof_of (var 0))
      ∙ ap (λ y. arrow (pi individuals y) (proof_of c))
      (substitute_arrow (under_binder (for_last c)) (proof_of (app (shift (shift f)) (var 0))) (proof_of (var 1))
      ∙ ap (λ y. arrow (proof_of (app y (var 0))) (proof_of (shift c))) (shift_substitute (for_last c) (shift f) ∙ ap shift (instantiate_shift f c)))

  pub ex_elim : {g : List Term} {f c t k : Term} → HasType sig g f (arrow individuals propositions) → HasType sig g c propositions → HasType sig g t (proof_of (ex f))
      → HasType sig g k (pi individuals (arrow (proof_of (app (shift f) (var 0))) (proof_of (shift c)))) → HasType sig g (app (app t c) k) (proof_of c)
  ex_elim {f = f} {c = c} hf hc ht hk =
      arrow_app sig e (rw (ex_inst f c) at (has_app (unfold_rule sig e (rewrite_ex f) (prf_type sig e (ex_prop sig e hf)) (ex_rule_type hf) ht) hc)) hk

  pub ex_lam : {g : List Term} {b u a : Term} → HasType sig (individuals ∷ g) b propositions → HasType sig g u individuals → HasType sig g a (proof_of (instantiate b u)) → HasType sig g (ex_term b u a) (proof_of (ex (lam individuals b)))
  ex_lam {g = g} {b = b} {u = u} {a = a} hb hu ha =
      let f = lam individuals b in
      let hf = fun_type sig e hb in
      let b1 = rename (under_renaming (λ n. suc n)) b in
      let hf1 = weakened sig e propositions hf in
      let hc = last sig e {g = g} propositions in
      let k0 = pi individuals (arrow (proof_of (app (shift (shift f)) (var 0))) (proof_of (var 1))) in
      let k1 = pi individuals (arrow (proof_of b1) (proof_of (var 1))) in
      let same : Convertible k1 k0 = conv_pi (conv_refl individuals) (arrow_conv (conv_app (conv_refl (con prf_name)) (conv_sym (beta_last b1))) (conv_refl (proof_of (var 1)))) in
      let h0 = some_type hf1 hc in
      let hb1 : HasType sig (individuals ∷ propositions ∷ g) b1 propositions = body_shift hb in
      let h1 : HasType sig (propositions ∷ g) k1 type = has_pi sort_type (i_type sig e _) (arrow_type sig e (prf_type sig e hb1) (prf_type sig e (weakened sig e individuals hc))) in
      let head = last sig e {g = propositions ∷ g} k1 in
      let at_u = rw (k_inst b u) at (has_app head (weakened sig e k1 (weakened sig e propositions hu))) in
      let inner = arrow_app sig e at_u (weakened sig e k1 (weakened sig e propositions ha)) in
      let body = ex_rule_type hf in
      let hv = prf_type sig e hc in
      fold_rule sig e (rewrite_ex f) (prf_type sig e (ex_prop sig e hf)) body
      (has_lam sort_type body (conv_type sig e (arrow_conv same (conv_refl (proof_of (var 0)))) (arrow_type sig e h1 hv) (arrow_type sig e h0 hv) (arrow_lam sig e h1 hv inner)))
