-- A type of a typed term has a sort, and a term keeps its types when it is reduced.
use Rattle.std.proofs.Common.{◌≡◌, ℕ, zero, suc, List, ◌∷◌, ◌⊎◌, inl, inr, refl}
use Rattle.lp_term.specs.Connectives.{arrow, individuals, propositions, proof_of}
use Rattle.lp_term.specs.Conversion.{Rewrites, rewrite_imp, rewrite_not, rewrite_all, rewrite_bot, rewrite_top, rewrite_and, rewrite_or, rewrite_ex, rewrite_iff, Convertible, conv_refl, conv_sym, conv_trans, conv_pi}
use Rattle.lp_term.specs.LambdaPi.{Term, type, kind, con, var, app, pi, shift, substitute, for_last, instantiate}
use Rattle.lp_term.specs.Names.{prf_name}
use Rattle.lp_term.specs.Typing.{Declaration, Declares, Gives, given_here, given_later, IsSort, sort_type, sort_kind, HasType, has_type, has_var, has_con, has_pi, has_lam, has_app, has_conv}
use Rattle.lp_term.proofs.ConnectiveRules.{closed_of, arrow_type, prop_type, prf_type, bot_con, last}
use Rattle.lp_term.proofs.ConversionLaws.{convertible_substitute, convertible_rename}
use Rattle.lp_term.proofs.PreludeLaws.{spelled, of_prelude}
use Rattle.lp_term.proofs.QuantifierRules.{weakened, i_type, fun_app}
use Rattle.lp_term.proofs.SubstitutionLaws.{instantiate_shift, substitute_var}
use Rattle.lp_term.proofs.TypingLaws.{weaken, types_instantiate, types_substitute}
use Rattle.lp_exact.specs.ParallelReduction.{RootStep, root_beta, root_rule, ParallelStep, parallel_type, parallel_con, parallel_var, parallel_app, parallel_lam, parallel_pi, parallel_reduced, ParallelSteps, no_parallel, parallel_then}
use Rattle.lp_exact.specs.Signatures.{IsWellFormedSignature, IsWellFormedContext, HasSort}
use Rattle.lp_exact.proofs.ConfluenceLaws.{parallel_converts, pi_injective}
use Rattle.lp_exact.proofs.DegreeLaws.{one_sort, graded_context_extends}
use Rattle.lp_exact.proofs.ParallelLaws.{parallel_refl, parallel_instantiates, rule_head}
use Rattle.lp_exact.proofs.UniquenessLaws.{generation_con, generation_pi, generation_lam, generation_app}
use Rattle.lp_exact.specs.Reduction.{ReducesTo}
use Rattle.lp_exact.specs.ParallelReduction.{ParallelSteps, no_parallel, parallel_then}
use Rattle.lp_exact.proofs.NormalFormLaws.{reduces_parallels}
use Rattle.std.proofs.Common.{[]}
use Rattle.lp_exact.proofs.PreludeSymbols.{declares_all, declares_and, declares_ex, declares_iff, declares_imp, declares_not, declares_or, declares_prf}

-- a context with one type more
context_typed : {sig : List Declaration} {g : List Term} {c : Term} → IsWellFormedSignature sig → IsWellFormedContext sig g → HasType sig g c type → (n : ℕ) (a : Term) → Gives (c ∷ g) n a → HasType sig (c ∷ g) a type
context_typed {c = c} w f h zero a (given_here g b) = weaken c (closed_of w.extends) h
context_typed {c = c} w f h (suc n) a (given_later {a = b} d k) = weaken c (closed_of w.extends) (f.typed n b k)

not_given : {n : ℕ} {a : Term} → Gives [] n a → ⊥
not_given = elim [ ]

-- the empty context is well-formed
pub empty_context : (sig : List Declaration) → IsWellFormedContext sig []
empty_context sig = record {
  typed = λ n a h. absurd (not_given h);
  graded = record { grades = λ n a h. absurd (not_given h) };
}

sort_instantiates : {s : Term} (u : Term) → IsSort s → instantiate s u ≡ s
sort_instantiates u sort_type = refl
sort_instantiates u sort_kind = refl

module _ {sig : List Declaration} (w : IsWellFormedSignature sig) where
  pub type_has_sort : {g : List Term} {t a : Term} → IsWellFormedContext sig g → HasType sig g t a → (a ≡ kind) ⊎ HasSort sig g a
  type_has_sort f (has_type g) = inl refl
  type_has_sort f (has_var {n = n} {a = a} k) = inr (type, sort_type, f.typed n a k)
  type_has_sort f (has_con g {s = x} {a = a} k) = inr (w.sorted x a g k)
  type_has_sort f (has_pi sort_type h k) = inr (kind, sort_kind, has_type _)
  type_has_sort f (has_pi sort_kind h k) = inl refl
  type_has_sort f (has_lam {s = s} i h k) = inr (s, i, h)
  type_has_sort f (has_app {a = a} {b = b} {u = u} h k) =
      elim (type_has_sort f h) [
        | inl e ↦ absurd cc
        | inr r ↦ let p = generation_pi r.2 in inr (p.0, p.1, rw (sort_instantiates u p.1) at (types_instantiate (closed_of w.extends) p.3 k))
      ]
  type_has_sort f (has_conv {s = s} i h e l m) = inr (s, i, m)

  -- a product that is a type of something
  pub product_has_sort : {g : List Term} {t a b : Term} → IsWellFormedContext sig g → HasType sig g t (pi a b) → HasType sig g a type × ((s : Term) × IsSort s × HasType sig (a ∷ g) b s)
  product_has_sort f h = elim (type_has_sort f h) [
    | inl e ↦ absurd cc
    | inr r ↦ let p = generation_pi r.2 in (p.2, (p.0, p.1, p.3))
  ]

  -- a context with a convertible type
  context_converts : {g : List Term} {a c t b : Term} → Convertible a c → HasType sig g a type → HasType sig g c type → HasType sig (a ∷ g) t b → HasType sig (c ∷ g) t b
  context_converts {g = g} {a = a} {c = c} {t = t} {b = b} e h k l =
      let up_a = weaken c (closed_of w.extends) h in
      let up_c = weaken c (closed_of w.extends) k in
      let first : HasType sig (c ∷ g) (var 0) (shift a) = has_conv sort_type (has_var (given_here g c)) (conv_sym (convertible_rename (λ n. suc n) e)) up_c up_a in
      rw (substitute_var t, substitute_var b) at (types_substitute (c ∷ g) (λ n. var n) (closed_of w.extends) (record { keeps = go first }) l)
    where
      go : HasType sig (c ∷ g) (var 0) (shift a) → (n : ℕ) (x : Term) → Gives (a ∷ g) n x → HasType sig (c ∷ g) (var n) (substitute (λ m. var m) x)
      go first zero x (given_here g' d) = rw (substitute_var x) first
      go first (suc n) x (given_later d k) = rw (substitute_var x) (has_var (given_later c k))

  -- the type of a symbol of the prelude
  pub symbol_type : {g : List Term} {x : List ℕ} {a c : Term} → Declares spelled x a → HasType sig g (con x) c → Convertible a c
  symbol_type {x = x} {a = a} d h = let r = generation_con h in rw (w.once.same x a r.0 (of_prelude w.extends d) r.1) r.2

  -- the argument of a symbol of one argument has the domain as its type
  unary_argument : {g : List Term} {t p e : Term} (d c : Term) → IsWellFormedContext sig g → HasType sig g d type → ((x : Term) → HasType sig g t x → Convertible (arrow d c) x) → HasType sig g (app t p) e → HasType sig g p d × Convertible c e
  unary_argument {p = p} d c f hd ht h =
      let r = generation_app h in
      let i = pi_injective (ht (pi r.0 r.1) r.2) in
      let v = product_has_sort f r.2 in
      (has_conv sort_type r.3 (conv_sym i.0) v.0 hd, conv_trans (rw (instantiate_shift c p) at (convertible_substitute (for_last p) i.1)) r.4)

  binary_arguments : {g : List Term} {t p q e : Term} (d d' c : Term) → IsWellFormedContext sig g → HasType sig g d type → HasType sig g d' type → ((x : Term) → HasType sig g t x → Convertible (arrow d (arrow d' c)) x) → HasType sig g (app (app t p) q) e → HasType sig g p d × HasType sig g q d'
  binary_arguments d d' c f hd hd' ht h =
      let r = generation_app h in
      ((unary_argument d (arrow d' c) f hd ht r.2).0, (unary_argument d' c f hd' (λ x k. (unary_argument d (arrow d' c) f hd ht k).1) h).0)

  -- the arguments of the connectives
  two_propositions : {g : List Term} {x : List ℕ} {p q : Term} → Declares spelled x (arrow propositions (arrow propositions propositions)) → IsWellFormedContext sig g → HasType sig g (app (app (con x) p) q) propositions → HasType sig g p propositions × HasType sig g q propositions
  two_propositions {g = g} d f h =
      binary_arguments propositions propositions propositions f (prop_type sig w.extends g) (prop_type sig w.extends g) (λ y k. symbol_type d k) h

  one_proposition : {g : List Term} {x : List ℕ} {p : Term} → Declares spelled x (arrow propositions propositions) → IsWellFormedContext sig g → HasType sig g (app (con x) p) propositions → HasType sig g p propositions
  one_proposition {g = g} d f h = (unary_argument propositions propositions f (prop_type sig w.extends g) (λ y k. symbol_type d k) h).0

  one_family : {g : List Term} {x : List ℕ} {p : Term} → Declares spelled x (arrow (arrow individuals propositions) propositions) → IsWellFormedContext sig g → HasType sig g (app (con x) p) propositions → HasType sig g p (arrow individuals propositions)
  one_family {g = g} d f h =
      (unary_argument (arrow individuals propositions) propositions f (arrow_type sig w.extends (i_type sig w.extends g) (prop_type sig w.extends g)) (λ y k. symbol_type d k) h).0

  -- short names for the formation rules
  arrow_formed : {g : List Term} {a b : Term} → HasType sig g a type → HasType sig g b type → HasType sig g (arrow a b) type
  arrow_formed h k = arrow_type sig w.extends h k

  proof_formed : {g : List Term} {p : Term} → HasType sig g p propositions → HasType sig g (proof_of p) type
  proof_formed h = prf_type sig w.extends h

  weakened_last : {g : List Term} {t a : Term} (b : Term) → HasType sig g t a → HasType sig (b ∷ g) (shift t) (shift a)
  weakened_last b h = weakened sig w.extends b h

  goal_formed : (g : List Term) → HasType sig (propositions ∷ g) (proof_of (var 0)) type
  goal_formed g = proof_formed (last sig w.extends propositions)

  product_formed : {g : List Term} {b : Term} → HasType sig (propositions ∷ g) b type → HasType sig g (pi propositions b) type
  product_formed {g = g} h = has_pi sort_type (prop_type sig w.extends g) h

  -- the right side of a rule has TYPE
  rule_typed : {g : List Term} {u v : Term} → IsWellFormedContext sig g → Rewrites (proof_of u) v → HasType sig g u propositions → HasType sig g v type
  rule_typed f (rewrite_imp p q) h =
      let i = two_propositions declares_imp f h in arrow_formed (proof_formed i.0) (proof_formed i.1)
  rule_typed {g = g} f (rewrite_not p) h =
      let i = one_proposition declares_not f h in
      arrow_formed (proof_formed i) (proof_formed (bot_con sig w.extends g))
  rule_typed {g = g} f (rewrite_all p) h =
      let i = one_family declares_all f h in
      has_pi sort_type (i_type sig w.extends g) (proof_formed (fun_app sig w.extends (weakened_last individuals i) (last sig w.extends individuals)))
  rule_typed {g = g} f rewrite_bot h = product_formed (goal_formed g)
  rule_typed {g = g} f rewrite_top h = product_formed (arrow_formed (goal_formed g) (goal_formed g))
  rule_typed {g = g} f (rewrite_and p q) h =
      let i = two_propositions declares_and f h in
      let hp = proof_formed (weakened_last propositions i.0) in
      let hq = proof_formed (weakened_last propositions i.1) in
      product_formed (arrow_formed (arrow_formed hp (arrow_formed hq (goal_formed g))) (goal_formed g))
  rule_typed {g = g} f (rewrite_or p q) h =
      let i = two_propositions declares_or f h in
      let hp = proof_formed (weakened_last propositions i.0) in
      let hq = proof_formed (weakened_last propositions i.1) in
      product_formed (arrow_formed (arrow_formed hp (goal_formed g)) (arrow_formed (arrow_formed hq (goal_formed g)) (goal_formed g)))
  rule_typed {g = g} f (rewrite_ex p) h =
      let i = one_family declares_ex f h in
      let body = proof_formed (fun_app sig w.extends (weakened_last individuals (weakened_last propositions i)) (last sig w.extends individuals)) in
      product_formed (arrow_formed (has_pi sort_type (i_type sig w.extends (propositions ∷ g)) (arrow_formed body (proof_formed (weakened_last individuals (last sig w.extends propositions))))) (goal_formed g))
  rule_typed {g = g} f (rewrite_iff p q) h =
      let i = two_propositions declares_iff f h in
      let hp = proof_formed (weakened_last propositions i.0) in
      let hq = proof_formed (weakened_last propositions i.1) in
      product_formed (arrow_formed (arrow_formed (arrow_formed hp hq) (arrow_formed (arrow_formed hq hp) (goal_formed g))) (goal_formed g))

  -- another type of a term that is known to be convertible to the first
  retyped : {g : List Term} {t a b s s' : Term} → IsWellFormedContext sig g → IsSort s → IsSort s' → Convertible a b → HasType sig g a s → HasType sig g b s' → HasType sig g t a → HasType sig g t b
  retyped f i j e h k l = has_conv j l e (rw (one_sort w.graded f.graded i j e h k) at h) k

  pub context_extends : {g : List Term} {c : Term} → IsWellFormedContext sig g → HasType sig g c type → IsWellFormedContext sig (c ∷ g)
  context_extends {c = c} f h = record { typed = context_typed w f h; graded = graded_context_extends w.graded f.graded h }

  -- a root step keeps the type
  root_typed : {g : List Term} {t u v a b : Term} → IsWellFormedContext sig g → RootStep (app t u) v → HasType sig g t (pi a b) → HasType sig g u a → HasType sig g v (instantiate b u)
  root_typed {g = g} {a = a} {b = b} f (root_beta c t u) h k =
      let l = generation_lam h in
      let i = pi_injective l.5 in
      let v = product_has_sort f h in
      let m = generation_pi l.3 in
      let here = has_conv sort_type k (conv_sym i.0) v.0 m.2 in
      let body = types_instantiate (closed_of w.extends) l.4 here in
      let first = rw (sort_instantiates u m.1) at (types_instantiate (closed_of w.extends) m.3 here) in
      let second = rw (sort_instantiates u v.1.1) at (types_instantiate (closed_of w.extends) v.1.2 k) in
      retyped f m.1 v.1.1 (convertible_substitute (for_last u) i.1) first second body
  root_typed {g = g} {t = t} {u = u} {v = x} {a = a} {b = b} f (root_rule r) h k =
      let e = rule_head r in
      let h' : HasType sig g (con prf_name) (pi a b) = rw e at h in
      let r' : Rewrites (proof_of u) x = rw e at r in
      let i = pi_injective (symbol_type declares_prf h') in
      let v = product_has_sort f h in
      let here = has_conv sort_type k (conv_sym i.0) v.0 (prop_type sig w.extends g) in
      let second = rw (sort_instantiates u v.1.1) at (types_instantiate (closed_of w.extends) v.1.2 k) in
      retyped f sort_kind v.1.1 (convertible_substitute (for_last u) i.1) (has_type g) second (rule_typed f r' here)

  -- the type of an application whose argument is reduced
  application_typed : {g : List Term} {t u v x a b : Term} → IsWellFormedContext sig g → HasType sig g t (pi a b) → HasType sig g u a → HasType sig g v a → ParallelStep u v → HasType sig g x (instantiate b v) → HasType sig g x (instantiate b u)
  application_typed {u = u} {v = v} {b = b} f h k l p m =
      let i = product_has_sort f h in
      let first = rw (sort_instantiates u i.1.1) at (types_instantiate (closed_of w.extends) i.1.2 k) in
      let second = rw (sort_instantiates v i.1.1) at (types_instantiate (closed_of w.extends) i.1.2 l) in
      has_conv i.1.1 m (conv_sym (parallel_converts (parallel_instantiates (parallel_refl b) p))) second first

  -- a term keeps its types when it is reduced
  pub parallel_typed : {g : List Term} {t u a : Term} → IsWellFormedContext sig g → HasType sig g t a → ParallelStep t u → HasType sig g u a
  parallel_typed f (has_type g) parallel_type = has_type g
  parallel_typed f (has_var k) (parallel_var n) = has_var k
  parallel_typed f (has_con g k) (parallel_con x) = has_con g k
  parallel_typed f (has_pi i h k) (parallel_pi p q) =
      let h' = parallel_typed f h p in
      has_pi i h' (context_converts (parallel_converts p) h h' (parallel_typed (context_extends f h) k q))
  parallel_typed f (has_lam {b = b} i h k) (parallel_lam p q) =
      let h' = parallel_typed f h (parallel_pi p (parallel_refl b)) in
      let x = generation_pi h in
      let y = generation_pi h' in
      let k' = context_converts (parallel_converts p) x.2 y.2 (parallel_typed (context_extends f x.2) k q) in
      has_conv i (has_lam i h' k') (conv_pi (conv_sym (parallel_converts p)) (conv_refl b)) h' h
  parallel_typed f (has_app h k) (parallel_app p q) =
      let k' = parallel_typed f k q in
      application_typed f h k k' q (has_app (parallel_typed f h p) k')
  parallel_typed f (has_app h k) (parallel_reduced p q r) =
      let k' = parallel_typed f k q in
      application_typed f h k k' q (root_typed f r (parallel_typed f h p) k')
  parallel_typed f (has_conv i h e l m) p = has_conv i (parallel_typed f h p) e l m

  -- the same for any number of steps
  parallels_typed : {g : List Term} {t u a : Term} → IsWellFormedContext sig g → HasType sig g t a → ParallelSteps t u → HasType sig g u a
  parallels_typed f h (no_parallel t) = h
  parallels_typed f h (parallel_then p l) = parallels_typed f (parallel_typed f h p) l

  pub reduct_typed : {g : List Term} {t u a : Term} → IsWellFormedContext sig g → HasType sig g t a → ReducesTo t u → HasType sig g u a
  reduct_typed f h l = parallels_typed f h (reduces_parallels l)
