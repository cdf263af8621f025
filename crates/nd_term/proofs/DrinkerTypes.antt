-- The two drinker terms have their types.
use Rattle.std.proofs.Common.{Bool, true, false, ◌≡◌, suc, List, ◌∷◌, sym, ap}
use Rattle.lp_term.specs.Names.{prf_name}
use Rattle.lp_term.specs.LambdaPi.{Term, app, con, instantiate, lam, rename, shift, type, under_renaming, var}
use Rattle.lp_term.specs.Connectives.{all, arrow, ex, imp, individuals, neg, proof_of, propositions}
use Rattle.lp_term.specs.Conversion.{Convertible, conv_app, conv_pi, conv_refl, conv_sym, conv_trans}
use Rattle.lp_term.specs.Typing.{Declaration, HasType, has_app, has_lam, has_pi, sort_type}
use Rattle.lp_term.specs.Signature.{Extends}
use Rattle.lp_term.specs.ProofTerms.{ex_term}
use Rattle.lp_term.proofs.SubstitutionLaws.{instantiate_shift}
use Rattle.lp_term.proofs.TypingLaws.{retype}
use Rattle.lp_term.proofs.ConnectiveRules.{arrow_lam, arrow_type, contradict_types, em_at, imp_lam, imp_prop, last, neg_app, neg_prop, or_elim, prf_type, prop_type}
use Rattle.lp_term.proofs.QuantifierRules.{all_prop, any_con, bot_app, conv_type, ex_prop, fun_app, fun_type, i_type, weakened}
use Rattle.lp_term.proofs.IntroductionRules.{all_intro, arrow_conv, beta_last, ex_elim, ex_lam, some_type}
use Rattle.nd_term.specs.Eigenvariables.{witness_at}
use Rattle.nd_term.specs.Drinkers.{drinker, drinks, negative_drinker, negative_drinker_type, positive_drinker, positive_drinker_type, refutes}

inst_drinks : (f u : Term) → instantiate (drinks f) u ≡ imp (ex f) (app f u)
inst_drinks f u = ap (λ y. imp (ex y) (app y u)) (instantiate_shift f u)

inst_refutes : (f u : Term) → instantiate (refutes f) u ≡ imp (neg (all f)) (neg (app f u))
inst_refutes f u = ap (λ y. imp (neg (all y)) (neg (app y u))) (instantiate_shift f u)

module _ (sig : List Declaration) (e : Extends sig) where
  pred_type : (g : List Term) → HasType sig g (arrow individuals propositions) type
  pred_type g = arrow_type sig e (i_type sig e g) (prop_type sig e g)

  pub drinks_prop : {g : List Term} {f : Term} → HasType sig g f (arrow individuals propositions) → HasType sig (individuals ∷ g) (drinks f) propositions
  drinks_prop h = imp_prop sig e (ex_prop sig e (weakened sig e individuals h)) (fun_app sig e (weakened sig e individuals h) (last sig e individuals))

  pub refutes_prop : {g : List Term} {f : Term} → HasType sig g f (arrow individuals propositions) → HasType sig (individuals ∷ g) (refutes f) propositions
  refutes_prop h = imp_prop sig e (neg_prop sig e (all_prop sig e (weakened sig e individuals h))) (neg_prop sig e (fun_app sig e (weakened sig e individuals h) (last sig e individuals)))

  drink_lam : {g : List Term} {f u a : Term} → HasType sig g f (arrow individuals propositions) → HasType sig g u individuals → HasType sig (proof_of (ex f) ∷ g) a (proof_of (shift (app f u))) → HasType sig g (ex_term (drinks f) u (lam (proof_of (ex f)) a)) (proof_of (ex (lam individuals (drinks f))))
  drink_lam {f = f} {u = u} hf hu ha =
      ex_lam sig e (drinks_prop hf) hu (retype (ap proof_of (sym (inst_drinks f u))) (imp_lam sig e (ex_prop sig e hf) (fun_app sig e hf hu) ha))

  refute_lam : {g : List Term} {f u a : Term} → HasType sig g f (arrow individuals propositions) → HasType sig g u individuals → HasType sig (proof_of (neg (all f)) ∷ g) a (proof_of (shift (neg (app f u)))) → HasType sig g (ex_term (refutes f) u (lam (proof_of (neg (all f))) a)) (proof_of (ex (lam individuals (refutes f))))
  refute_lam {f = f} {u = u} hf hu ha =
      ex_lam sig e (refutes_prop hf) hu (retype (ap proof_of (sym (inst_refutes f u))) (imp_lam sig e (neg_prop sig e (all_prop sig e hf)) (neg_prop sig e (fun_app sig e hf hu)) ha))

  pub positive_drinker_sort : (g : List Term) → HasType sig g positive_drinker_type type
  positive_drinker_sort g = has_pi sort_type (pred_type g) (prf_type sig e (ex_prop sig e (fun_type sig e (drinks_prop (last sig e {g = g} (arrow individuals propositions))))))

  pub negative_drinker_sort : (g : List Term) → HasType sig g negative_drinker_type type
  negative_drinker_sort g = has_pi sort_type (pred_type g) (prf_type sig e (ex_prop sig e (fun_type sig e (refutes_prop (last sig e {g = g} (arrow individuals propositions))))))

  pub positive_drinker_types : (g : List Term) → HasType sig g positive_drinker positive_drinker_type
  positive_drinker_types g =
      let hf = last sig e {g = g} (arrow individuals propositions) in
      let he = ex_prop sig e hf in
      let hg = ex_prop sig e (fun_type sig e (drinks_prop hf)) in
      let b1 = proof_of (ex (var 0)) in
      let hf2 = weakened sig e b1 hf in
      let hg2 = weakened sig e b1 hg in
      let b2 = proof_of (app (var 2) (var 0)) in
      let hx = fun_app sig e (weakened sig e individuals hf2) (last sig e individuals) in
      let hf4 = weakened sig e b2 (weakened sig e individuals hf2) in
      let inner = drink_lam hf4 (weakened sig e b2 (last sig e individuals)) (weakened sig e (proof_of (ex (var 3))) (last sig e b2)) in
      let k = has_lam sort_type (some_type sig e hf2 hg2) (arrow_lam sig e (prf_type sig e hx) (prf_type sig e (weakened sig e individuals hg2)) inner) in
      let l = arrow_lam sig e (prf_type sig e he) (prf_type sig e hg) (ex_elim sig e hf2 hg2 (last sig e b1) k) in
      let b3 = proof_of (neg (ex (var 0))) in
      let hf3 = weakened sig e b3 hf in
      let b4 = proof_of (ex (var 1)) in
      let hf5 = weakened sig e b4 hf3 in
      let absurd_z = bot_app sig e (neg_app sig e (ex_prop sig e hf5) (weakened sig e b4 (last sig e b3)) (last sig e b4)) (fun_app sig e hf5 (any_con sig e _)) in
      let r = arrow_lam sig e (prf_type sig e (neg_prop sig e he)) (prf_type sig e hg) (drink_lam hf3 (any_con sig e _) absurd_z) in
      has_lam sort_type (has_pi sort_type (pred_type g) (prf_type sig e hg)) (or_elim sig e he (neg_prop sig e he) hg (em_at sig e he) l r)

  pub negative_drinker_types : (g : List Term) → HasType sig g negative_drinker negative_drinker_type
  negative_drinker_types g =
      let hf = last sig e {g = g} (arrow individuals propositions) in
      let hj = ex_prop sig e (fun_type sig e (refutes_prop hf)) in
      let b2 = proof_of (neg (ex (lam individuals (refutes (var 0))))) in
      let hf2 = weakened sig e b2 hf in
      let hj2 = weakened sig e b2 hj in
      let b3 = proof_of (neg (all (var 1))) in
      let hf3 = weakened sig e b3 hf2 in
      let hj3 = weakened sig e b3 hj2 in
      let hf4 = weakened sig e individuals hf3 in
      let hx = fun_app sig e hf4 (last sig e individuals) in
      let b5 = proof_of (neg (app (var 3) (var 0))) in
      let hf5 = weakened sig e b5 hf4 in
      let hj5 = weakened sig e b5 (weakened sig e individuals hj3) in
      let q5 = weakened sig e b5 (weakened sig e individuals (weakened sig e b3 (last sig e b2))) in
      let hu5 = weakened sig e b5 (last sig e individuals) in
      let b6 = proof_of (neg (all (var 4))) in
      let some = refute_lam hf5 hu5 (weakened sig e b6 (last sig e b5)) in
      let d = bot_app sig e (neg_app sig e hj5 q5 some) (fun_app sig e hf5 hu5) in
      let each = all_intro sig e hf3 (contradict_types sig e hx d) in
      let a = bot_app sig e (neg_app sig e (all_prop sig e hf3) (last sig e b3) each) (neg_prop sig e (fun_app sig e hf3 (any_con sig e _))) in
      let remaining = bot_app sig e (neg_app sig e hj2 (last sig e b2) (refute_lam hf2 (any_con sig e _) a)) hj2 in
      has_lam sort_type (has_pi sort_type (pred_type g) (prf_type sig e hj)) (contradict_types sig e hj remaining)

  -- what is proved below an eigenvariable and the variable after it
  pub below_types : {g : List Term} {d a w c remaining : Term} → HasType sig (individuals ∷ g) a propositions → HasType sig (individuals ∷ g) w propositions → Convertible a w → HasType sig g c propositions → HasType sig g d (proof_of (ex (lam individuals a)))
      → HasType sig (proof_of w ∷ individuals ∷ g) remaining (shift (shift (proof_of c))) → HasType sig g (app (app d c) (lam individuals (lam (proof_of w) remaining))) (proof_of c)
  below_types {g = g} {a = a} {c = c} ha hw cv hc hd hr =
      let hf = fun_type sig e ha in
      let tc = prf_type sig e (weakened sig e individuals hc) in
      let narrow = has_pi sort_type (i_type sig e g) (arrow_type sig e (prf_type sig e hw) tc) in
      let k = has_lam sort_type narrow (arrow_lam sig e (prf_type sig e hw) tc hr) in
      let same = conv_pi (conv_refl individuals) (arrow_conv (conv_app (conv_refl (con prf_name)) (conv_sym (conv_trans (beta_last a) cv))) (conv_refl (proof_of (shift c)))) in
      ex_elim sig e hf hc hd (conv_type sig e same narrow (some_type sig e hf hc) k)

  pub drinker_types : {g : List Term} {dp dn b c remaining : Term} (p : Bool) → HasType sig g dp positive_drinker_type → HasType sig g dn negative_drinker_type → HasType sig (individuals ∷ g) b propositions → HasType sig g c propositions
      → HasType sig (proof_of (witness_at p (rename (under_renaming (λ k. suc k)) b) b) ∷ individuals ∷ g) remaining (shift (shift (proof_of c)))
      → HasType sig g (app (app (app (drinker p dp dn) (lam individuals b)) c) (lam individuals (lam (proof_of (witness_at p (rename (under_renaming (λ k. suc k)) b) b)) remaining))) (proof_of c)
  drinker_types {b = b} true hp hn hb hc hr =
      let hf = fun_type sig e hb in
      let hw = imp_prop sig e (ex_prop sig e (weakened sig e individuals hf)) hb in
      below_types (drinks_prop hf) hw (conv_app (conv_refl _) (beta_last b)) hc (has_app hp hf) hr
  drinker_types {b = b} false hp hn hb hc hr =
      let hf = fun_type sig e hb in
      let hw = imp_prop sig e (neg_prop sig e (all_prop sig e (weakened sig e individuals hf))) (neg_prop sig e hb) in
      below_types (refutes_prop hf) hw (conv_app (conv_refl _) (conv_app (conv_refl _) (beta_last b))) hc (has_app hn hf) hr
