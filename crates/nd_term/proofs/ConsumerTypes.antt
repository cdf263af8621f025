-- Each consumer proves falsity.
use Rattle.std.proofs.Common.{◌≡◌, ℕ, zero, suc, List, [], ◌∷◌, ◌++◌, map, Bool, true, false, sym, ap, ap₂, ◌∙◌, append_assoc}
use Rattle.lp_term.specs.Names.{any_name, prf_name}
use Rattle.lp_term.specs.LambdaPi.{Term, con, instantiate, lam, rename, shift, under_binder, under_renaming, var}
use Rattle.lp_term.specs.Connectives.{all, bot, ex, imp, individuals, neg, proof_of, propositions}
use Rattle.lp_term.specs.Conversion.{conv_app, conv_refl, conv_sym}
use Rattle.lp_term.specs.Typing.{Declaration, HasType}
use Rattle.lp_term.specs.Signature.{Extends}
use Rattle.lp_term.specs.ProofTerms.{iff_arg}
use Rattle.lp_term.proofs.SubstitutionLaws.{rename_instantiate}
use Rattle.lp_term.proofs.TypingLaws.{retype}
use Rattle.lp_term.proofs.ConnectiveRules.{arrow_app, arrow_lam, arrow_type, bot_con, imp_app, imp_lam, imp_prop, last, neg_app, neg_lam, neg_prop, or_elim, or_prop, prf_type}
use Rattle.lp_term.proofs.QuantifierRules.{all_app, all_prop, and_at, and_lam, and_prop, any_declared, bot_app, conv_type, ex_prop, fun_app, fun_type, iff_prop, top_con, weakened}
use Rattle.lp_term.proofs.IntroductionRules.{all_intro, beta_last, body_shift, ex_lam, iff_elim, iff_lam, left_lam, right_lam, top_lam}
use Rattle.nd_term.specs.Formulas.{Formula, GroundTerm, Literal, eigenvariable, extended, ground_symbol}
use Rattle.nd_term.specs.Translation.{signed, translated, translated_at, translated_ground}
use Rattle.nd_term.specs.Symbols.{FormulaOver, GroundOver, over_conjunction, over_disjunction, over_eigenvariable, over_equivalence, over_existential, over_ground_symbol, over_implication, over_negation, over_universal}
use Rattle.nd_term.specs.Eigenvariables.{Eigenvariable, IsOrigin, Unused, origin_body, witness_at, witness_formula}
use Rattle.nd_term.specs.ThinTrees.{Fits, ThinTree, fits_all, fits_all_eigenvariable, fits_all_vacuous, fits_and, fits_and_left, fits_and_right, fits_atom, fits_ex, fits_ex_eigenvariable, fits_ex_vacuous, fits_false, fits_iff_either, fits_iff_left, fits_iff_neither, fits_iff_right, fits_imp, fits_imp_left, fits_imp_right, fits_not, fits_or, fits_or_left, fits_or_right, fits_true}
use Rattle.nd_term.specs.Consumers.{consumer, lift, remaining}
use Rattle.nd_term.specs.Bindings.{Bindings, Covers, covers_cons, covers_nil}
use Rattle.nd_term.proofs.TranslationLaws.{Individuals, individuals_shift, individuals_under, literal_shift, translated_at_shift, translated_ground_shift, translated_ground_types, translated_instantiate, translated_shift, translated_term_ground, translated_types, translated_under, witness_shift}
use Rattle.nd_term.proofs.DrinkerTypes.{below_types}

-- what the variable after an eigenvariable says where its origin formula is met
met_positive : (x : ℕ → Term) (k : ℕ) (o : Eigenvariable) (f : Formula) (s : ℕ → GroundTerm) → o.positive ≡ true → IsOrigin o f s → proof_of (witness_formula x k o) ≡ proof_of (imp (ex (lam individuals (translated (under_binder (λ n. translated_ground x (s n))) f))) (translated_at x (extended (eigenvariable k) s) f))
met_positive x k o f s q r =
    ap (λ b. proof_of (witness_at b (origin_body x o) (translated_at x (extended (eigenvariable k) o.puts) o.body))) q
    ∙ ap₂ (λ y z. proof_of (imp (ex (lam individuals y)) z)) (sym (r x)) (sym (translated_instantiate x o.puts (eigenvariable k) o.body) ∙ ap (λ y. instantiate y (x k)) (sym (r x)) ∙ translated_instantiate x s (eigenvariable k) f)

met_negative : (x : ℕ → Term) (k : ℕ) (o : Eigenvariable) (f : Formula) (s : ℕ → GroundTerm) → o.positive ≡ false → IsOrigin o f s → proof_of (witness_formula x k o) ≡ proof_of (imp (neg (all (lam individuals (translated (under_binder (λ n. translated_ground x (s n))) f)))) (neg (translated_at x (extended (eigenvariable k) s) f)))
met_negative x k o f s q r =
    ap (λ b. proof_of (witness_at b (origin_body x o) (translated_at x (extended (eigenvariable k) o.puts) o.body))) q
    ∙ ap₂ (λ y z. proof_of (imp (neg (all (lam individuals y))) (neg z))) (sym (r x)) (sym (translated_instantiate x o.puts (eigenvariable k) o.body) ∙ ap (λ y. instantiate y (x k)) (sym (r x)) ∙ translated_instantiate x s (eigenvariable k) f)

-- a body in which variable 0 doesn't occur, two binders further in
unused_two : (f : Formula) (x : ℕ → Term) (s : ℕ → GroundTerm) → Unused f → shift (translated (under_binder (λ n. translated_ground x (s n))) f) ≡ translated_at (lift (lift x)) (extended (ground_symbol any_name) s) f
unused_two f x s u =
    translated_shift (under_binder (λ n. translated_ground x (s n))) f
    ∙ u (λ n. shift (under_binder (λ m. translated_ground x (s m)) n)) (λ n. translated_ground (lift (lift x)) (extended (ground_symbol any_name) s n)) (λ n. ap shift (translated_ground_shift x (s n)) ∙ translated_ground_shift (lift x) (s n))

unused_under : (f : Formula) (x : ℕ → Term) (s : ℕ → GroundTerm) → Unused f → shift (shift (translated_at x (extended (ground_symbol any_name) s) f)) ≡ rename (under_renaming (λ k. suc k)) (translated (under_binder (λ n. translated_ground x (s n))) f)
unused_under f x s u =
    ap shift (translated_at_shift x (extended (ground_symbol any_name) s) f)
    ∙ translated_at_shift (lift x) (extended (ground_symbol any_name) s) f
    ∙ u (λ n. translated_ground (lift (lift x)) (extended (ground_symbol any_name) s n)) (under_binder (λ m. shift (translated_ground x (s m)))) (λ n. sym (ap shift (translated_ground_shift x (s n)) ∙ translated_ground_shift (lift x) (s n)))
    ∙ sym (translated_under (λ n. translated_ground x (s n)) f)

module _ (sig : List Declaration) (e : Extends sig) where
  pub place_shift : {es : List Eigenvariable} {g : List Term} {x w : ℕ → Term} (a : Term) → Bindings sig es g x w → Bindings sig es (a ∷ g) (lift x) (lift w)
  place_shift {x = x} a p =
      record { inds = individuals_shift sig e a p.inds; wits = λ k o n. retype (ap proof_of (witness_shift x k o)) (weakened sig e a (p.wits k o n)) }

  front_left : {g : List Term} {x : ℕ → Term} {lv : List Term} (c d : List Literal) → Covers sig g x (c ++ d) lv → Covers sig g x c lv
  front_left {lv = lv} [] d h = covers_nil lv
  front_left (l ∷ c) d (covers_cons t h) = covers_cons t (front_left c d h)

  -- the variables after a tree's are those of the literals after its clause
  front_rest : {es : List Eigenvariable} {b : Bool} {f : Formula} {s : ℕ → GroundTerm} {th : ThinTree} {c : List Literal} {g : List Term} {x : ℕ → Term} {lv : List Term} (d : List Literal) → Fits sig es b f s th c → Covers sig g x (c ++ d) lv → Covers sig g x d (remaining th lv)
  front_rest d (fits_atom b t s) (covers_cons i h) = h
  front_rest d (fits_false s) h = h
  front_rest d (fits_not b i) h = front_rest d i h
  front_rest d (fits_and_left _ i) h = front_rest d i h
  front_rest d (fits_and_right _ i) h = front_rest d i h
  front_rest d (fits_and {c = m} {d = n} i j) h = front_rest d j (front_rest (n ++ d) i (rw (append_assoc m n d) at h))
  front_rest d (fits_or {c = m} {d = n} i j) h = front_rest d j (front_rest (n ++ d) i (rw (append_assoc m n d) at h))
  front_rest d (fits_imp {c = m} {d = n} i j) h = front_rest d j (front_rest (n ++ d) i (rw (append_assoc m n d) at h))
  front_rest d (fits_imp_left _ i) h = front_rest d i h
  front_rest d (fits_imp_right _ i) h = front_rest d i h
  front_rest d (fits_true s) h = h
  front_rest d (fits_or_left _ i) h = front_rest d i h
  front_rest d (fits_or_right _ i) h = front_rest d i h
  front_rest d (fits_iff_left {c = m} {d = n} i j) h = front_rest d j (front_rest (n ++ d) i (rw (append_assoc m n d) at h))
  front_rest d (fits_iff_right {c = m} {d = n} i j) h = front_rest d j (front_rest (n ++ d) i (rw (append_assoc m n d) at h))
  front_rest d (fits_iff_either {c = m} {d = n} i j) h = front_rest d j (front_rest (n ++ d) i (rw (append_assoc m n d) at h))
  front_rest d (fits_iff_neither {c = m} {d = n} i j) h = front_rest d j (front_rest (n ++ d) i (rw (append_assoc m n d) at h))
  front_rest d (fits_all o i) h = front_rest d i h
  front_rest d (fits_ex o i) h = front_rest d i h
  front_rest d (fits_ex_eigenvariable n p q i) h = front_rest d i h
  front_rest d (fits_all_eigenvariable n p q i) h = front_rest d i h
  front_rest d (fits_ex_vacuous u i) h = front_rest d i h
  front_rest d (fits_all_vacuous u i) h = front_rest d i h

  front_shift : {g : List Term} {x : ℕ → Term} {c : List Literal} {lv : List Term} (a : Term) → Covers sig g x c lv → Covers sig (a ∷ g) (λ k. shift (x k)) c (map shift lv)
  front_shift a (covers_nil lv) = covers_nil (map shift lv)
  front_shift {x = x} a (covers_cons {l = l} t h) = covers_cons (retype (literal_shift x l) (weakened sig e a t)) (front_shift a h)

  -- the terms put in for a formula's variables are over the signature
  abbrev pub Grounds : (ℕ → GroundTerm) → Type 0
  Grounds s = (n : ℕ) → GroundOver sig individuals 0 (s n)

  grounds_cons : {u : GroundTerm} (s : ℕ → GroundTerm) → GroundOver sig individuals 0 u → Grounds s → Grounds (extended u s)
  grounds_cons s o h zero = o
  grounds_cons s o h (suc n) = h n

  at_inds : {g : List Term} {x : ℕ → Term} {s : ℕ → GroundTerm} → Individuals sig e g x → Grounds s → Individuals sig e g (λ n. translated_ground x (s n))
  at_inds {x = x} h k = λ n. translated_ground_types sig e x h (k n)

  pub at_prop : {g : List Term} {x : ℕ → Term} {s : ℕ → GroundTerm} {f : Formula} → Individuals sig e g x → Grounds s → FormulaOver sig f → HasType sig g (translated_at x s f) propositions
  at_prop {x = x} {s = s} h k o = translated_types sig e (λ n. translated_ground x (s n)) (at_inds h k) o

  -- the variable bound last is a proof of the formula, read one level further in
  here : {g : List Term} (x : ℕ → Term) (s : ℕ → GroundTerm) (f : Formula) → HasType sig (proof_of (translated_at x s f) ∷ g) (var 0) (proof_of (translated_at (λ k. shift (x k)) s f))
  here {g = g} x s f = rw (← (translated_at_shift x s f)) (last sig e (proof_of (translated_at x s f)))

  wk_at : {g : List Term} {t : Term} (a : Term) (x : ℕ → Term) (s : ℕ → GroundTerm) (f : Formula) → HasType sig g t (proof_of (translated_at x s f)) → HasType sig (a ∷ g) (shift t) (proof_of (translated_at (λ k. shift (x k)) s f))
  wk_at a x s f h = rw (← (translated_at_shift x s f)) (weakened sig e a h)

  pub consumer_types : {es : List Eigenvariable} {b : Bool} {f : Formula} {s : ℕ → GroundTerm} {th : ThinTree} {c : List Literal} {g : List Term} (x w : ℕ → Term) (lv : List Term) (t : Term)
      → Fits sig es b f s th c → FormulaOver sig f → Grounds s → Bindings sig es g x w → Covers sig g x c lv
      → HasType sig g t (proof_of (signed b (translated_at x s f))) → HasType sig g (consumer f b th s x w lv t) (proof_of bot)
  consumer_types x w lv t (fits_atom true p s) o gs xs (covers_cons n h) k =
      neg_app sig e (at_prop xs.inds gs o) (rw (translated_term_ground x s p) n) k
  consumer_types x w lv t (fits_atom false p s) o gs xs (covers_cons n h) k =
      neg_app sig e (at_prop xs.inds gs o) k (rw (translated_term_ground x s p) n)
  consumer_types x w lv t (fits_false s) o gs xs h k = k
  consumer_types x w lv t (fits_not true i) (over_negation o) gs xs h k = consumer_types x w lv t i o gs xs h k
  consumer_types x w lv t (fits_not false {f = f} {s = s} i) (over_negation o) gs xs h k =
      let p = translated_at x s f in
      let hp = at_prop xs.inds gs o in
      neg_app sig e (neg_prop sig e hp) k (neg_lam sig e hp (consumer_types _ _ _ (var 0) i o gs (place_shift (proof_of p) xs) (front_shift (proof_of p) h) (here x s f)))
  consumer_types x w lv t (fits_and_left {f = f} m {s = s} i) (over_conjunction o n) gs xs h k =
      let p = translated_at x s f in
      let q = translated_at x s m in
      let hp = at_prop xs.inds gs o in
      let hq = at_prop xs.inds gs n in
      let pp = prf_type sig e hp in
      let pq = prf_type sig e hq in
      let pb = prf_type sig e (bot_con sig e _) in
      let b = proof_of (shift q) in
      arrow_app sig e (and_at sig e hp hq (bot_con sig e _) k)
      (arrow_lam sig e pp (arrow_type sig e pq pb)
      (arrow_lam sig e (weakened sig e (proof_of p) pq) (prf_type sig e (bot_con sig e _))
      (consumer_types _ _ _ (var 1) i o gs (place_shift b (place_shift (proof_of p) xs)) (front_shift b (front_shift (proof_of p) h)) (wk_at b _ s f (here x s f)))))
  consumer_types x w lv t (fits_and_right f {h = m} {s = s} i) (over_conjunction o n) gs xs h k =
      let p = translated_at x s f in
      let q = translated_at x s m in
      let hp = at_prop xs.inds gs o in
      let hq = at_prop xs.inds gs n in
      let pp = prf_type sig e hp in
      let pq = prf_type sig e hq in
      let pb = prf_type sig e (bot_con sig e _) in
      let b = proof_of (shift q) in
      arrow_app sig e (and_at sig e hp hq (bot_con sig e _) k)
      (arrow_lam sig e pp (arrow_type sig e pq pb)
      (arrow_lam sig e (weakened sig e (proof_of p) pq) (prf_type sig e (bot_con sig e _))
      (consumer_types _ _ _ (var 0) i n gs (place_shift b (place_shift (proof_of p) xs)) (front_shift b (front_shift (proof_of p) h))
      (rw (← (translated_at_shift (λ k. shift (x k)) s m)) (rw (← (translated_at_shift x s m)) (last sig e (shift (proof_of q))))))))
  consumer_types x w lv t (fits_and {f = f} {h = m} {s = s} {c = c} {d = d} i j) (over_conjunction o n) gs xs h k =
      let p = translated_at x s f in
      let q = translated_at x s m in
      let hp = at_prop xs.inds gs o in
      let hq = at_prop xs.inds gs n in
      let hp1 = weakened sig e (proof_of p) hp in
      let hq1 = weakened sig e (proof_of p) hq in
      let b = proof_of (shift q) in
      let pair = and_lam sig e (weakened sig e b hp1) (weakened sig e b hq1) (weakened sig e b (last sig e (proof_of p))) (last sig e b) in
      let inner = neg_app sig e (weakened sig e b (weakened sig e (proof_of p) (and_prop sig e hp hq))) (weakened sig e b (weakened sig e (proof_of p) k)) pair in
      consumer_types x w lv _ i o gs xs (front_left c d h)
      (neg_lam sig e hp (consumer_types _ _ _ _ j n gs (place_shift (proof_of p) xs) (front_shift (proof_of p) (front_rest d i h))
      (rw (← (translated_at_shift x s m)) (neg_lam sig e hq1 inner))))
  consumer_types x w lv t (fits_or {f = f} {h = m} {s = s} {c = c} {d = d} i j) (over_disjunction o n) gs xs h k =
      let p = translated_at x s f in
      let q = translated_at x s m in
      let hp = at_prop xs.inds gs o in
      let hq = at_prop xs.inds gs n in
      let pb = prf_type sig e (bot_con sig e _) in
      or_elim sig e hp hq (bot_con sig e _) k
      (arrow_lam sig e (prf_type sig e hp) pb (consumer_types _ _ _ (var 0) i o gs (place_shift (proof_of p) xs) (front_shift (proof_of p) (front_left c d h)) (here x s f)))
      (arrow_lam sig e (prf_type sig e hq) pb (consumer_types _ _ _ (var 0) j n gs (place_shift (proof_of q) xs) (front_shift (proof_of q) (front_rest d i h)) (here x s m)))
  consumer_types x w lv t (fits_imp {f = f} {h = m} {s = s} {c = c} {d = d} i j) (over_implication o n) gs xs h k =
      let hp = at_prop xs.inds gs o in
      let hq = at_prop xs.inds gs n in
      let p = translated_at x s f in
      consumer_types x w lv _ i o gs xs (front_left c d h)
      (neg_lam sig e hp (consumer_types _ _ _ _ j n gs (place_shift (proof_of p) xs) (front_shift (proof_of p) (front_rest d i h))
      (rw (← (translated_at_shift x s m)) (imp_app sig e (weakened sig e (proof_of p) hp) (weakened sig e (proof_of p) hq) (weakened sig e (proof_of p) k) (last sig e (proof_of p))))))
  consumer_types x w lv t (fits_imp_left {f = f} m {s = s} i) (over_implication o n) gs xs h k =
      let hp = at_prop xs.inds gs o in
      let hq = at_prop xs.inds gs n in
      let p = translated_at x s f in
      neg_app sig e (imp_prop sig e hp hq) k
      (imp_lam sig e hp hq (bot_app sig e (consumer_types _ _ _ (var 0) i o gs (place_shift (proof_of p) xs) (front_shift (proof_of p) h) (here x s f)) (weakened sig e (proof_of p) hq)))
  consumer_types x w lv t (fits_imp_right f {h = m} {s = s} i) (over_implication o n) gs xs h k =
      let hp = at_prop xs.inds gs o in
      let hq = at_prop xs.inds gs n in
      let p = translated_at x s f in
      let q = translated_at x s m in
      let hp1 = weakened sig e (proof_of q) hp in
      let hq1 = weakened sig e (proof_of q) hq in
      consumer_types x w lv _ i n gs xs h
      (neg_lam sig e hq (neg_app sig e (imp_prop sig e hp1 hq1) (weakened sig e (proof_of q) k)
      (imp_lam sig e hp1 hq1 (weakened sig e (proof_of (shift p)) (last sig e (proof_of q))))))
  consumer_types x w lv t (fits_all {f = f} {s = s} {u = u} gu i) (over_universal o) gs xs h k =
      let hb = translated_types sig e (under_binder (λ n. translated_ground x (s n))) (individuals_under sig e (λ n. translated_ground x (s n)) (at_inds xs.inds gs)) o in
      consumer_types x w lv _ i o (grounds_cons s gu gs) xs h (rw (← (translated_instantiate x s u f)) (all_app sig e hb k (translated_ground_types sig e x xs.inds gu)))
  consumer_types x w lv t (fits_true s) o gs xs h k = neg_app sig e (top_con sig e _) k (top_lam sig e _)
  consumer_types x w lv t (fits_or_left {f = f} m {s = s} i) (over_disjunction o n) gs xs h k =
      let b = proof_of (translated_at x s f) in
      let hp = at_prop xs.inds gs o in
      let hq = at_prop xs.inds gs n in
      let hp1 = weakened sig e b hp in
      let hq1 = weakened sig e b hq in
      consumer_types x w lv _ i o gs xs h
      (neg_lam sig e hp (neg_app sig e (or_prop sig e hp1 hq1) (weakened sig e b k) (left_lam sig e hp1 hq1 (last sig e b))))
  consumer_types x w lv t (fits_or_right f {h = m} {s = s} i) (over_disjunction o n) gs xs h k =
      let b = proof_of (translated_at x s m) in
      let hp = at_prop xs.inds gs o in
      let hq = at_prop xs.inds gs n in
      let hp1 = weakened sig e b hp in
      let hq1 = weakened sig e b hq in
      consumer_types x w lv _ i n gs xs h
      (neg_lam sig e hq (neg_app sig e (or_prop sig e hp1 hq1) (weakened sig e b k) (right_lam sig e hp1 hq1 (last sig e b))))
  consumer_types x w lv t (fits_ex {f = f} {s = s} {u = u} gu i) (over_existential o) gs xs h k =
      let hb = translated_types sig e (under_binder (λ n. translated_ground x (s n))) (individuals_under sig e (λ n. translated_ground x (s n)) (at_inds xs.inds gs)) o in
      let hu = translated_ground_types sig e x xs.inds gu in
      let b = proof_of (translated_at x (extended u s) f) in
      let hp = at_prop xs.inds (grounds_cons s gu gs) o in
      let bound = retype (ap (λ y. shift (proof_of y)) (sym (translated_instantiate x s u f)) ∙ ap proof_of (rename_instantiate (λ n. suc n) (translated (under_binder (λ n. translated_ground x (s n))) f) (translated_ground x u))) (last sig e b) in
      consumer_types x w lv _ i o (grounds_cons s gu gs) xs h
      (neg_lam sig e hp (neg_app sig e (weakened sig e b (ex_prop sig e (fun_type sig e hb))) (weakened sig e b k) (ex_lam sig e (body_shift sig e hb) (weakened sig e b hu) bound)))
  consumer_types x w lv t (fits_ex_eigenvariable {f = f} {s = s} {k = j} {o = p} n q r i) (over_existential o) gs xs h k =
      let hb = translated_types sig e (under_binder (λ n. translated_ground x (s n))) (individuals_under sig e (λ n. translated_ground x (s n)) (at_inds xs.inds gs)) o in
      let gs1 = grounds_cons s (over_eigenvariable j) gs in
      let hw = retype (met_positive x j p f s q r) (xs.wits j p n) in
      consumer_types x w lv _ i o gs1 xs h (imp_app sig e (ex_prop sig e (fun_type sig e hb)) (at_prop xs.inds gs1 o) hw k)
  consumer_types x w lv t (fits_all_eigenvariable {f = f} {s = s} {k = j} {o = p} n q r i) (over_universal o) gs xs h k =
      let hb = translated_types sig e (under_binder (λ n. translated_ground x (s n))) (individuals_under sig e (λ n. translated_ground x (s n)) (at_inds xs.inds gs)) o in
      let gs1 = grounds_cons s (over_eigenvariable j) gs in
      let hw = retype (met_negative x j p f s q r) (xs.wits j p n) in
      consumer_types x w lv _ i o gs1 xs h (imp_app sig e (neg_prop sig e (all_prop sig e (fun_type sig e hb))) (neg_prop sig e (at_prop xs.inds gs1 o)) hw k)
  consumer_types x w lv t (fits_iff_left {f = f} {h = m} {s = s} {c = c} {d = d} i j) (over_equivalence o n) gs xs h k =
      let p = translated_at x s f in
      let q = translated_at x s m in
      let hp = at_prop xs.inds gs o in
      let hq = at_prop xs.inds gs n in
      let pb = prf_type sig e (bot_con sig e _) in
      let a1 = proof_of (imp p q) in
      let a2 = proof_of (shift (imp q p)) in
      let t1 = prf_type sig e (imp_prop sig e hp hq) in
      let t2 = prf_type sig e (imp_prop sig e hq hp) in
      let hp2 = weakened sig e a2 (weakened sig e a1 hp) in
      let hq2 = weakened sig e a2 (weakened sig e a1 hq) in
      let xs2 = place_shift a2 (place_shift a1 xs) in
      let h2 = front_shift a2 (front_shift a1 h) in
      let a3 = proof_of (shift (shift p)) in
      let first = weakened sig e a3 (weakened sig e a2 (last sig e a1)) in
      let goes = imp_app sig e (weakened sig e a3 hp2) (weakened sig e a3 hq2) first (last sig e a3) in
      let inner = consumer_types _ _ _ _ j n gs (place_shift a3 xs2) (front_shift a3 (front_rest d i h2))
      (rw (← (translated_at_shift (lift (lift x)) s m)) (rw (← (translated_at_shift (lift x) s m)) (rw (← (translated_at_shift x s m)) goes))) in
      iff_elim sig e hp hq (bot_con sig e _) k
      (arrow_lam sig e t1 (arrow_type sig e t2 pb)
      (arrow_lam sig e (weakened sig e a1 t2) (prf_type sig e (bot_con sig e _))
      (consumer_types _ _ _ _ i o gs xs2 (front_left c d h2)
      (rw (← (translated_at_shift (lift x) s f)) (rw (← (translated_at_shift x s f)) (neg_lam sig e hp2 inner))))))
  consumer_types x w lv t (fits_iff_right {f = f} {h = m} {s = s} {c = c} {d = d} i j) (over_equivalence o n) gs xs h k =
      let p = translated_at x s f in
      let q = translated_at x s m in
      let hp = at_prop xs.inds gs o in
      let hq = at_prop xs.inds gs n in
      let pb = prf_type sig e (bot_con sig e _) in
      let a1 = proof_of (imp p q) in
      let a2 = proof_of (shift (imp q p)) in
      let t1 = prf_type sig e (imp_prop sig e hp hq) in
      let t2 = prf_type sig e (imp_prop sig e hq hp) in
      let hp2 = weakened sig e a2 (weakened sig e a1 hp) in
      let hq2 = weakened sig e a2 (weakened sig e a1 hq) in
      let xs2 = place_shift a2 (place_shift a1 xs) in
      let h2 = front_shift a2 (front_shift a1 h) in
      let a3 = proof_of (shift (shift q)) in
      let goes = imp_app sig e (weakened sig e a3 hq2) (weakened sig e a3 hp2) (weakened sig e a3 (last sig e a2)) (last sig e a3) in
      let inner = consumer_types _ _ _ _ j o gs (place_shift a3 xs2) (front_shift a3 (front_rest d i h2))
      (rw (← (translated_at_shift (lift (lift x)) s f)) (rw (← (translated_at_shift (lift x) s f)) (rw (← (translated_at_shift x s f)) goes))) in
      iff_elim sig e hp hq (bot_con sig e _) k
      (arrow_lam sig e t1 (arrow_type sig e t2 pb)
      (arrow_lam sig e (weakened sig e a1 t2) (prf_type sig e (bot_con sig e _))
      (consumer_types _ _ _ _ i n gs xs2 (front_left c d h2)
      (rw (← (translated_at_shift (lift x) s m)) (rw (← (translated_at_shift x s m)) (neg_lam sig e hq2 inner))))))
  consumer_types x w lv t (fits_iff_either {f = f} {h = m} {s = s} {c = c} {d = d} i j) (over_equivalence o n) gs xs h k =
      let p = translated_at x s f in
      let q = translated_at x s m in
      let hp = at_prop xs.inds gs o in
      let hq = at_prop xs.inds gs n in
      let ka = iff_arg (shift p) (shift q) (var 0) in
      let hp2 = weakened sig e ka (weakened sig e propositions hp) in
      let hq2 = weakened sig e ka (weakened sig e propositions hq) in
      let xs2 = place_shift ka (place_shift propositions xs) in
      let h2 = front_shift ka (front_shift propositions (front_left c d h)) in
      let r2 = front_shift ka (front_shift propositions (front_rest d i h)) in
      let a3 = proof_of (shift (shift p)) in
      let b3 = proof_of (shift (shift q)) in
      let one = consumer_types _ _ _ (var 0) i o gs (place_shift a3 xs2) (front_shift a3 h2)
      (rw (← (translated_at_shift (lift (lift x)) s f)) (rw (← (translated_at_shift (lift x) s f)) (rw (← (translated_at_shift x s f)) (last sig e a3)))) in
      let two = consumer_types _ _ _ (var 0) j n gs (place_shift b3 xs2) (front_shift b3 r2)
      (rw (← (translated_at_shift (lift (lift x)) s m)) (rw (← (translated_at_shift (lift x) s m)) (rw (← (translated_at_shift x s m)) (last sig e b3)))) in
      neg_app sig e (iff_prop sig e hp hq) k
      (iff_lam sig e hp hq
      (arrow_lam sig e (prf_type sig e hp2) (prf_type sig e hq2) (bot_app sig e one (weakened sig e a3 hq2)))
      (arrow_lam sig e (prf_type sig e hq2) (prf_type sig e hp2) (bot_app sig e two (weakened sig e b3 hp2))))
  consumer_types x w lv t (fits_iff_neither {f = f} {h = m} {s = s} {c = c} {d = d} i j) (over_equivalence o n) gs xs h k =
      let p = translated_at x s f in
      let q = translated_at x s m in
      let hp = at_prop xs.inds gs o in
      let hq = at_prop xs.inds gs n in
      let a1 = proof_of p in
      let hp1 = weakened sig e a1 hp in
      let hq1 = weakened sig e a1 hq in
      let a2 = proof_of (shift q) in
      let hp2 = weakened sig e a2 hp1 in
      let hq2 = weakened sig e a2 hq1 in
      let ka = iff_arg (shift (shift (shift p))) (shift (shift (shift q))) (var 0) in
      let hp4 = weakened sig e ka (weakened sig e propositions hp2) in
      let hq4 = weakened sig e ka (weakened sig e propositions hq2) in
      let va = weakened sig e ka (weakened sig e propositions (weakened sig e a2 (last sig e a1))) in
      let vb = weakened sig e ka (weakened sig e propositions (last sig e a2)) in
      let same = iff_lam sig e hp2 hq2
      (arrow_lam sig e (prf_type sig e hp4) (prf_type sig e hq4) (weakened sig e (proof_of (shift (shift (shift (shift p))))) vb))
      (arrow_lam sig e (prf_type sig e hq4) (prf_type sig e hp4) (weakened sig e (proof_of (shift (shift (shift (shift q))))) va)) in
      let inner = neg_app sig e (iff_prop sig e hp2 hq2) (weakened sig e a2 (weakened sig e a1 k)) same in
      consumer_types x w lv _ i o gs xs (front_left c d h)
      (neg_lam sig e hp (consumer_types _ _ _ _ j n gs (place_shift a1 xs) (front_shift a1 (front_rest d i h))
      (rw (← (translated_at_shift x s m)) (neg_lam sig e hq1 inner))))
  consumer_types {g = g} x w lv t (fits_ex_vacuous {f = f} {s = s} u i) (over_existential o) gs xs h k =
      let b = translated (under_binder (λ n. translated_ground x (s n))) f in
      let hb = translated_types sig e (under_binder (λ n. translated_ground x (s n))) (individuals_under sig e (λ n. translated_ground x (s n)) (at_inds xs.inds gs)) o in
      let inner = consumer_types _ _ _ (var 0) i o (grounds_cons s (over_ground_symbol 0 (any_declared sig e)) gs) (place_shift (proof_of b) (place_shift individuals xs)) (front_shift (proof_of b) (front_shift individuals h))
      (retype (ap proof_of (unused_two f x s u)) (last sig e {g = individuals ∷ g} (proof_of b))) in
      below_types sig e hb hb (conv_refl b) (bot_con sig e g) k inner
  consumer_types {g = g} x w lv t (fits_all_vacuous {f = f} {s = s} u i) (over_universal o) gs xs h k =
      let hb = translated_types sig e (under_binder (λ n. translated_ground x (s n))) (individuals_under sig e (λ n. translated_ground x (s n)) (at_inds xs.inds gs)) o in
      let gs1 = grounds_cons s (over_ground_symbol 0 (any_declared sig e)) gs in
      let hp = at_prop xs.inds gs1 o in
      let p = proof_of (translated_at x (extended (ground_symbol any_name) s) f) in
      let hf = fun_type sig e hb in
      let b1 = rename (under_renaming (λ k. suc k)) (translated (under_binder (λ n. translated_ground x (s n))) f) in
      let hb1 = body_shift sig e {c = p} hb in
      let inner : HasType sig (individuals ∷ p ∷ g) (var 1) (proof_of b1) = retype (ap proof_of (unused_under f x s u)) (weakened sig e individuals (last sig e {g = g} p)) in
      let hf1 = weakened sig e p hf in
      let at_last = conv_type sig e (conv_app (conv_refl (con prf_name)) (conv_sym (beta_last b1))) (prf_type sig e hb1) (prf_type sig e (fun_app sig e (weakened sig e individuals hf1) (last sig e individuals))) inner in
      consumer_types x w lv _ i o gs1 xs h
      (neg_lam sig e hp (neg_app sig e (weakened sig e p (all_prop sig e hf)) (weakened sig e p k) (all_intro sig e hf1 at_last)))
