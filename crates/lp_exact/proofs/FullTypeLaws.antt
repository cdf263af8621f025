-- The full type is the normal form of a lazy type.
use Rattle.std.proofs.Common.{◌≡◌, ℕ, zero, suc, ◌+◌, ◌≤◌, List, ◌∷◌, Option, Some, inl, inr, refl, ap, ap₂, subst, arith}
use Rattle.lp_term.specs.LambdaPi.{Term, type, kind, con, pat, var, app, lam, pi, under_renaming, rename, shift, under_binder}
use Rattle.lp_term.specs.Names.{prf_name}
use Rattle.lp_term.specs.Connectives.{arrow, proof_of, bot}
use Rattle.lp_term.specs.Conversion.{Rewrites, rewrite_all, rewrite_and, rewrite_bot, rewrite_ex, rewrite_iff, rewrite_imp, rewrite_not, rewrite_or, rewrite_top}
use Rattle.lp_exact.specs.declared.word.Word.{Word}
use Rattle.lp_exact.specs.declared.word.Word.TheVariants.{Imp, And, Or, Iff, Not, Top, Bot, All, Ex}
use Rattle.lp_exact.specs.Words.{word_of}
use Rattle.lp_exact.specs.Layers.{body_of, layer_of_constant, layer_of_unary, layer_of_binary, layer_of, opened}
use Rattle.lp_exact.specs.LazyTypes.{type_weight, in_parts, full_at, full}
use Rattle.lp_exact.specs.Normalisation.{put_with, apply_at}
use Rattle.lp_exact.specs.Objects.{Simple, individual, truth, function, simple_of, simple_of_both, simple_here, simple_later, IsNormal, normal_lam, normal_neutral, IsNeutral, neutral_var, neutral_con, neutral_app, IsLazy, lazy_individuals, lazy_propositions, lazy_proof, lazy_pi}
use Rattle.lp_exact.specs.Symbols.{IsSimpleOfWord, AreSimpleOfWords}
use Rattle.lp_exact.specs.Reduction.{StepsTo, step_rule, step_function, step_argument, step_domain, step_codomain, HasNormalForm}
use Rattle.lp_exact.proofs.StepLaws.{parallels_reduce}
use Rattle.lp_exact.proofs.LazyLaws.{opened_is, opened_weight, full_reduces}
use Rattle.lp_exact.proofs.ObjectLaws.{RenamesSimple, renames_simple_under, renames_simple_suc, normal_renames, neutral_renames, PutsEntries, puts_under, put_keeps, no_rule_of_pi, no_rule_of_con, normal_stops}

-- ---- simple types under renaming

-- a renaming keeps the simple type
pub simple_of_rename : (t : Term) (r : ℕ → ℕ) → simple_of (rename r t) ≡ simple_of t
simple_of_rename type r = refl
simple_of_rename kind r = refl
simple_of_rename (con x) r = refl
simple_of_rename (pat x) r = refl
simple_of_rename (var n) r = refl
simple_of_rename (app t u) r = refl
simple_of_rename (lam a t) r = refl
simple_of_rename (pi a b) r = ap₂ simple_of_both (simple_of_rename a r) (simple_of_rename b (under_renaming r))

-- a symbol makes no redex
pub apply_symbol : (k : ℕ) (x : List ℕ) (v : Term) → apply_at k (con x) v ≡ app (con x) v
apply_symbol zero x v = refl
apply_symbol (suc k) x v = refl

-- ---- a stuck `Prf` has no rule

-- `Prf` that stays unopened has no rule
rule_not_stuck : {o u : Term} → Rewrites (proof_of o) u → layer_of body_of o (proof_of o) ≡ proof_of o → ⊥
rule_not_stuck (rewrite_imp p q) e = cc
rule_not_stuck (rewrite_not p) e = cc
rule_not_stuck (rewrite_all f) e = cc
rule_not_stuck rewrite_bot e = cc
rule_not_stuck rewrite_top e = cc
rule_not_stuck (rewrite_and p q) e = cc
rule_not_stuck (rewrite_or p q) e = cc
rule_not_stuck (rewrite_ex f) e = cc
rule_not_stuck (rewrite_iff p q) e = cc

pi_stops : {a b u : Term} → ((v : Term) → StepsTo a v → ⊥) → ((v : Term) → StepsTo b v → ⊥) → StepsTo (pi a b) u → ⊥
pi_stops h k (step_rule r) = no_rule_of_pi (λ x a. ⊥) r
pi_stops h k (step_domain b s) = h _ s
pi_stops h k (step_codomain a s) = k _ s

module _ (C : List ℕ → Simple → Type 0) where
  pub lazy_renames : {g : List (Option Simple)} {t : Term} → IsLazy C g t → (d : List (Option Simple)) (r : ℕ → ℕ) → RenamesSimple g d r → IsLazy C d (rename r t)
  lazy_renames (lazy_individuals g) d r m = lazy_individuals d
  lazy_renames (lazy_propositions g) d r m = lazy_propositions d
  lazy_renames (lazy_proof h) d r m = lazy_proof (normal_renames C h d r m)
  lazy_renames (lazy_pi {a = a} h k) d r m = lazy_pi (lazy_renames h d r m) (rw (simple_of_rename a r) (lazy_renames k (simple_of a ∷ d) (under_renaming r) (renames_simple_under (simple_of a) m)))

  pub lazy_arrow : {g : List (Option Simple)} {a b : Term} → IsLazy C g a → IsLazy C g b → IsLazy C g (arrow a b)
  lazy_arrow {g = g} {a = a} h k = lazy_pi h (lazy_renames k (simple_of a ∷ g) (λ n. suc n) (renames_simple_suc g (simple_of a)))

  -- the simple type is kept
  pub simple_of_put : {g : List (Option Simple)} {t : Term} → IsLazy C g t → (k : ℕ) (s : ℕ → Term) → simple_of (put_with (apply_at k) s t) ≡ simple_of t
  simple_of_put (lazy_individuals g) k s = refl
  simple_of_put (lazy_propositions g) k s = refl
  simple_of_put (lazy_proof {o = o} h) k s = ap simple_of (apply_symbol k prf_name (put_with (apply_at k) s o))
  simple_of_put (lazy_pi h l) k s = ap₂ simple_of_both (simple_of_put h k s) (simple_of_put l k (under_binder s))

  -- a type stays lazy where an object is put in
  pub lazy_put : {g : List (Option Simple)} {t : Term} → IsLazy C g t → (k : ℕ) (d : List (Option Simple)) (s : ℕ → Term) → PutsEntries C k g d s → IsLazy C d (put_with (apply_at k) s t)
  lazy_put (lazy_individuals g) k d s p = lazy_individuals d
  lazy_put (lazy_propositions g) k d s p = lazy_propositions d
  lazy_put (lazy_proof {o = o} h) k d s p = rw (apply_symbol k prf_name (put_with (apply_at k) s o)) (lazy_proof (put_keeps C p h))
  lazy_put (lazy_pi {a = a} h l) k d s p = lazy_pi (lazy_put h k d s p) (rw (simple_of_put h k s) (lazy_put l k (simple_of a ∷ d) (under_binder s) (puts_under C (simple_of a) p)))

  -- ---- what stands in an object of a word

  parts_of_app : {g : List (Option Simple)} {t u : Term} {b : Simple} → IsNormal C g (app t u) b → (a : Simple) × IsNeutral C g t (function a b) × IsNormal C g u a
  parts_of_app (normal_neutral (neutral_app {a = a} h k)) = (a, h, k)

  parts_of_neutral : {g : List (Option Simple)} {t u : Term} {b : Simple} → IsNeutral C g (app t u) b → (a : Simple) × IsNeutral C g t (function a b) × IsNormal C g u a
  parts_of_neutral (neutral_app {a = a} h k) = (a, h, k)

  type_of_con : {g : List (Option Simple)} {x : List ℕ} {b : Simple} → IsNeutral C g (con x) b → C x b
  type_of_con (neutral_con g h) = h

  -- the function's type and the arguments
  parts_of_unary : {g : List (Option Simple)} {x : List ℕ} {p : Term} → IsNormal C g (app (con x) p) truth → (a : Simple) × C x (function a truth) × IsNormal C g p a
  parts_of_unary h = let i = parts_of_app h in (i.0, type_of_con i.1, i.2)

  parts_of_binary : {g : List (Option Simple)} {x : List ℕ} {p q : Term} → IsNormal C g (app (app (con x) p) q) truth → (a : Simple) × (b : Simple) × C x (function a (function b truth)) × IsNormal C g p a × IsNormal C g q b
  parts_of_binary h = let i = parts_of_app h in let j = parts_of_neutral i.1 in (j.0, i.0, type_of_con j.1, j.2, i.2)

  normal_retyped : {g : List (Option Simple)} {t : Term} {a b : Simple} → a ≡ b → IsNormal C g t a → IsNormal C g t b
  normal_retyped {g = g} {t = t} e h = subst (λ x. IsNormal C g t x) e h

  normal_shifted : {g : List (Option Simple)} {t : Term} {a : Simple} (b : Option Simple) → IsNormal C g t a → IsNormal C (b ∷ g) (shift t) a
  normal_shifted {g = g} b h = normal_renames C h (b ∷ g) (λ n. suc n) (renames_simple_suc g b)

  goal_lazy : (g : List (Option Simple)) → IsLazy C (Some truth ∷ g) (proof_of (var 0))
  goal_lazy g = lazy_proof (normal_neutral (neutral_var (simple_here g truth)))

  proof_lazy : {g : List (Option Simple)} {p : Term} → IsNormal C g p truth → IsLazy C (Some truth ∷ g) (proof_of (shift p))
  proof_lazy h = lazy_proof (normal_shifted (Some truth) h)

  body_normal : {g : List (Option Simple)} {f : Term} {b : Simple} → IsNormal C g f (function individual b) → IsNormal C (Some individual ∷ g) (body_of f) b
  body_normal (normal_lam _ h) = h
  body_normal {g = g} (normal_neutral h) = elim_body h
    where
      here : (g : List (Option Simple)) → IsNormal C (Some individual ∷ g) (var 0) individual
      here g = normal_neutral (neutral_var (simple_here g individual))

      elim_body : {g : List (Option Simple)} {f : Term} {b : Simple} → IsNeutral C g f (function individual b) → IsNormal C (Some individual ∷ g) (body_of f) b
      elim_body {g = g} (neutral_var h) = normal_neutral (neutral_app (neutral_renames C (neutral_var h) (Some individual ∷ g) (λ n. suc n) (renames_simple_suc g (Some individual))) (here g))
      elim_body {g = g} (neutral_con _ h) = normal_neutral (neutral_app (neutral_con _ h) (here g))
      elim_body {g = g} (neutral_app h k) = normal_neutral (neutral_app (neutral_renames C (neutral_app h k) (Some individual ∷ g) (λ n. suc n) (renames_simple_suc g (Some individual))) (here g))

  -- ---- a layer of a lazy type is lazy

  two_truths : {a b : Simple} → function a (function b truth) ≡ function truth (function truth truth) → (a ≡ truth) × (b ≡ truth)
  two_truths e = let h : _ ≡ truth = cc in let k : _ ≡ truth = cc in (h, k)

  constant_lazy : (w : Word) {g : List (Option Simple)} {other : Term} → IsLazy C g other → IsLazy C g (layer_of_constant w other)
  constant_lazy Bot {g = g} h = lazy_pi (lazy_propositions g) (goal_lazy g)
  constant_lazy Top {g = g} h = lazy_pi (lazy_propositions g) (lazy_arrow (goal_lazy g) (goal_lazy g))
  constant_lazy _ h = h

  unary_lazy : (w : Word) {g : List (Option Simple)} {p other : Term} (a : Simple) → IsSimpleOfWord w (function a truth) → IsNormal C g p a → IsLazy C g (proof_of bot) → IsLazy C g other → IsLazy C g (layer_of_unary body_of w p other)
  unary_lazy Not a s n v h = let e : a ≡ truth = cc in lazy_arrow (lazy_proof (normal_retyped e n)) v
  unary_lazy All {g = g} a s n v h = let e : a ≡ function individual truth = cc in lazy_pi (lazy_individuals g) (lazy_proof (body_normal (normal_retyped e n)))
  unary_lazy Ex {g = g} a s n v h =
      let e : a ≡ function individual truth = cc in
      let f = body_normal (normal_shifted (Some truth) (normal_retyped e n)) in
      lazy_pi (lazy_propositions g) (lazy_arrow (lazy_pi (lazy_individuals (Some truth ∷ g)) (lazy_arrow (lazy_proof f) (lazy_proof (normal_neutral (neutral_var (simple_later (Some individual) (simple_here g truth))))))) (goal_lazy g))
  unary_lazy _ a s n v h = h

  binary_lazy : (w : Word) {g : List (Option Simple)} {p q other : Term} (a b : Simple) → IsSimpleOfWord w (function a (function b truth)) → IsNormal C g p a → IsNormal C g q b → IsLazy C g other → IsLazy C g (layer_of_binary w p q other)
  binary_lazy Imp a b s n m h = let e = two_truths s in lazy_arrow (lazy_proof (normal_retyped e.0 n)) (lazy_proof (normal_retyped e.1 m))
  binary_lazy And {g = g} a b s n m h =
      let e = two_truths s in
      let p = proof_lazy (normal_retyped e.0 n) in
      let q = proof_lazy (normal_retyped e.1 m) in
      lazy_pi (lazy_propositions g) (lazy_arrow (lazy_arrow p (lazy_arrow q (goal_lazy g))) (goal_lazy g))
  binary_lazy Or {g = g} a b s n m h =
      let e = two_truths s in
      let p = proof_lazy (normal_retyped e.0 n) in
      let q = proof_lazy (normal_retyped e.1 m) in
      lazy_pi (lazy_propositions g) (lazy_arrow (lazy_arrow p (goal_lazy g)) (lazy_arrow (lazy_arrow q (goal_lazy g)) (goal_lazy g)))
  binary_lazy Iff {g = g} a b s n m h =
      let e = two_truths s in
      let p = proof_lazy (normal_retyped e.0 n) in
      let q = proof_lazy (normal_retyped e.1 m) in
      lazy_pi (lazy_propositions g) (lazy_arrow (lazy_arrow (lazy_arrow p q) (lazy_arrow (lazy_arrow q p) (goal_lazy g))) (goal_lazy g))
  binary_lazy _ a b s n m h = h

  module _ (w : AreSimpleOfWords C) where
    falsity_lazy : (g : List (Option Simple)) → IsLazy C g (proof_of bot)
    falsity_lazy g = lazy_proof (normal_neutral (neutral_con g w.falsity))

    layer_lazy : {g : List (Option Simple)} {other : Term} (o : Term) → IsNormal C g o truth → IsLazy C g other → IsLazy C g (layer_of body_of o other)
    layer_lazy (con x) n h = constant_lazy (word_of x) h
    layer_lazy {g = g} (app (con x) p) n h = let i = parts_of_unary n in unary_lazy (word_of x) i.0 (w.agrees x _ i.1) i.2 (falsity_lazy g) h
    layer_lazy (app (app (con x) p) q) n h = let i = parts_of_binary n in binary_lazy (word_of x) i.0 i.1 (w.agrees x _ i.2) i.3 i.4 h
    layer_lazy _ n h = h

    -- a lazy type opened
    pub lazy_opened : {g : List (Option Simple)} {t : Term} → IsLazy C g t → IsLazy C g (opened t)
    lazy_opened (lazy_individuals g) = lazy_individuals g
    lazy_opened (lazy_propositions g) = lazy_propositions g
    lazy_opened (lazy_proof {o = o} n) = layer_lazy o n (lazy_proof n)
    lazy_opened (lazy_pi h k) = lazy_pi h k

    no_proof_symbol : (b : Simple) → C prf_name b → ⊥
    no_proof_symbol b k = w.agrees prf_name b k

    lazy_parts : {g : List (Option Simple)} {a b : Term} → IsLazy C g (pi a b) → IsLazy C g a × IsLazy C (simple_of a ∷ g) b
    lazy_parts (lazy_pi h k) = (h, k)

    stuck_stops : {g : List (Option Simple)} {o u : Term} → IsNormal C g o truth → opened (proof_of o) ≡ proof_of o → StepsTo (proof_of o) u → ⊥
    stuck_stops n e (step_rule r) = rule_not_stuck r e
    stuck_stops n e (step_function o (step_rule r)) = no_rule_of_con C r
    stuck_stops n e (step_argument f s) = normal_stops C n no_proof_symbol s

    stuck_stays : (f : Term → Term) (o : Term) → opened (proof_of o) ≡ proof_of o → in_parts f (opened (proof_of o)) ≡ proof_of o
    stuck_stays f o e = ap (in_parts f) e

    -- no step leads on from a full type
    full_stops : (n : ℕ) (g : List (Option Simple)) (t : Term) → type_weight t ≤ n → IsLazy C g t → (u : Term) → StepsTo (full_at n t) u → ⊥
    full_stops zero g t l (lazy_individuals _) u (step_rule r) = no_rule_of_con C r
    full_stops (suc n) g t l (lazy_individuals _) u (step_rule r) = no_rule_of_con C r
    full_stops zero g t l (lazy_propositions _) u (step_rule r) = no_rule_of_con C r
    full_stops (suc n) g t l (lazy_propositions _) u (step_rule r) = no_rule_of_con C r
    full_stops zero g t l (lazy_pi {a = a} {b = b} h k) u s = absurd (let m : type_weight a + type_weight b + 1 ≤ 0 = l in omega (arith, m))
    full_stops (suc n) g t l (lazy_pi {a = a} {b = b} h k) u s =
        let m : type_weight a + type_weight b + 1 ≤ suc n = l in
        pi_stops (full_stops n g a (omega (arith, m)) h) (full_stops n (simple_of a ∷ g) b (omega (arith, m)) k) s
    full_stops zero g t l (lazy_proof {o = o} h) u s = elim (opened_is (proof_of o)) [
      | inl e ↦ stuck_stops h e s
      | inr e ↦ let m = ap type_weight e.2 in let k = opened_weight (proof_of o) in absurd (omega (arith, m, k, l))
    ]
    full_stops (suc n) g t l (lazy_proof {o = o} h) u s = elim (opened_is (proof_of o)) [
      | inl e ↦ stuck_stops h e (subst (λ x. StepsTo x u) (stuck_stays (full_at n) o e) s)
      | inr e ↦
          let z = lazy_parts (subst (λ x. IsLazy C g x) e.2 (lazy_opened (lazy_proof h))) in
          let m = ap type_weight e.2 in
          let k = opened_weight (proof_of o) in
          pi_stops (full_stops n g e.0 (omega (arith, m, k, l)) z.0) (full_stops n (simple_of e.0 ∷ g) e.1 (omega (arith, m, k, l)) z.1) (subst (λ x. StepsTo (in_parts (full_at n) x) u) e.2 s)
    ]

    -- the full type is the normal form
    pub full_is_normal : {g : List (Option Simple)} {t : Term} → IsLazy C g t → HasNormalForm t (full t)
    full_is_normal {g = g} {t = t} h = record { reached = parallels_reduce (full_reduces t); ends = full_stops (type_weight t) g t (omega arith) h }
