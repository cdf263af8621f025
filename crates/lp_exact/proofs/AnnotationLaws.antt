-- Reduction makes no annotation of a greater size, so that one rank serves all redexes of an object.
use Rattle.std.proofs.Common.{◌≡◌, ◌+◌, ◌≤◌, ℕ, zero, suc, List, Option, refl, ap, ap₂, sym, ◌∙◌, arith}
use Rattle.std.proofs.Math.Nat.{le-max_left, le-max_right}
use Rattle.lp_term.specs.LambdaPi.{Term, type, kind, con, pat, var, app, lam, pi, rename, under_renaming, under_binder, for_last}
use Rattle.lp_exact.specs.NormalTypes.{annotation_rank, annotation_size}
use Rattle.lp_exact.specs.Normalisation.{apply_at, normal_at, put_with}
use Rattle.lp_exact.specs.Objects.{Simple, individual, truth, function, simple_size, simple_term, IsObject, object_var, object_con, object_lam, object_app, IsNormal, normal_lam, normal_neutral, neutral_var, neutral_con, neutral_app}
use Rattle.lp_exact.proofs.ObjectLaws.{applies_at, apply_neutral, simple_is_normal, simple_put, simple_renamed}

-- each annotation is a simple type of at most that size
abbrev pub HasRank : ℕ → Term → Type 0
HasRank k (app t u) = HasRank k t × HasRank k u
HasRank k (lam a t) = ((c : Simple) × (a ≡ simple_term c) × (simple_size c ≤ k)) × HasRank k t
HasRank k (pi a b) = HasRank k a × HasRank k b
HasRank k t = Unit {0}

pub simple_nodes : (a : Simple) → annotation_size (simple_term a) ≡ simple_size a
simple_nodes individual = refl
simple_nodes truth = refl
simple_nodes (function a b) = ap₂ (λ x y. x + y + 1) (simple_nodes a) (simple_nodes b)

-- ---- reduction keeps the rank

module _ (k : ℕ) where
  rank_renamed : (t : Term) (r : ℕ → ℕ) → HasRank k t → HasRank k (rename r t)
  rank_renamed type r h = tt
  rank_renamed kind r h = tt
  rank_renamed (con x) r h = tt
  rank_renamed (pat x) r h = tt
  rank_renamed (var n) r h = tt
  rank_renamed (app t u) r h = (rank_renamed t r h.0, rank_renamed u r h.1)
  rank_renamed (lam a t) r h =
      ((h.0.0, ap (rename r) h.0.1 ∙ simple_renamed h.0.0 r, h.0.2), rank_renamed t (under_renaming r) h.1)
  rank_renamed (pi a b) r h = (rank_renamed a r h.0, rank_renamed b (under_renaming r) h.1)

  rank_under : (s : ℕ → Term) → ((n : ℕ) → HasRank k (s n)) → (n : ℕ) → HasRank k (under_binder s n)
  rank_under s h zero = tt
  rank_under s h (suc n) = rank_renamed (s n) (λ m. suc m) (h n)

  rank_put : (p : Term → Term → Term) → ((f v : Term) → HasRank k f → HasRank k v → HasRank k (p f v)) → (s : ℕ → Term) → ((n : ℕ) → HasRank k (s n)) → (t : Term) → HasRank k t → HasRank k (put_with p s t)
  rank_put p w s e type h = tt
  rank_put p w s e kind h = tt
  rank_put p w s e (con x) h = tt
  rank_put p w s e (pat x) h = tt
  rank_put p w s e (var n) h = e n
  rank_put p w s e (app t u) h = w (put_with p s t) (put_with p s u) (rank_put p w s e t h.0) (rank_put p w s e u h.1)
  rank_put p w s e (lam a t) h =
      ((h.0.0, ap (put_with p s) h.0.1 ∙ simple_put p h.0.0 s, h.0.2), rank_put p w (under_binder s) (rank_under s e) t h.1)
  rank_put p w s e (pi a b) h = (rank_put p w s e a h.0, rank_put p w (under_binder s) (rank_under s e) b h.1)

  rank_last : (v : Term) → HasRank k v → (n : ℕ) → HasRank k (for_last v n)
  rank_last v h zero = h
  rank_last v h (suc n) = tt

  rank_applied : (n : ℕ) (f v : Term) → HasRank k f → HasRank k v → HasRank k (apply_at n f v)
  rank_applied zero f v h l = (h, l)
  rank_applied (suc n) (lam a t) v h l = rank_put (apply_at n) (rank_applied n) (for_last v) (rank_last v l) t h.1
  rank_applied (suc n) type v h l = (h, l)
  rank_applied (suc n) kind v h l = (h, l)
  rank_applied (suc n) (con x) v h l = (h, l)
  rank_applied (suc n) (pat x) v h l = (h, l)
  rank_applied (suc n) (var m) v h l = (h, l)
  rank_applied (suc n) (app f u) v h l = (h, l)
  rank_applied (suc n) (pi a b) v h l = (h, l)

  rank_normal : (n : ℕ) (t : Term) → HasRank k t → HasRank k (normal_at n t)
  rank_normal n type h = tt
  rank_normal n kind h = tt
  rank_normal n (con x) h = tt
  rank_normal n (pat x) h = tt
  rank_normal n (var m) h = tt
  rank_normal n (app t u) h = rank_applied n (normal_at n t) (normal_at n u) (rank_normal n t h.0) (rank_normal n u h.1)
  rank_normal n (lam a t) h = ((h.0.0, ap (normal_at n) h.0.1 ∙ simple_is_normal n h.0.0, h.0.2), rank_normal n t h.1)
  rank_normal n (pi a b) h = (rank_normal n a h.0, rank_normal n b h.1)

-- ---- an object is normalised at its own rank

module _ (C : List ℕ → Simple → Type 0) where
  pub object_rank : {g : List (Option Simple)} {t : Term} {a : Simple} → IsObject C g t a → (k : ℕ) → annotation_rank t ≤ k → HasRank k t
  object_rank (object_var h) k l = tt
  object_rank (object_con g h) k l = tt
  object_rank (object_lam {t = t} a h) k l =
      let left = le-max_left (annotation_size (simple_term a)) (annotation_rank t) in
      let right = le-max_right (annotation_size (simple_term a)) (annotation_rank t) in
      ((a, refl, omega (arith, left, l, simple_nodes a)), object_rank h k (omega (arith, right, l)))
  object_rank (object_app {t = t} {u = u} h m) k l =
      let left = le-max_left (annotation_rank t) (annotation_rank u) in
      let right = le-max_right (annotation_rank t) (annotation_rank u) in
      (object_rank h k (omega (arith, left, l)), object_rank m k (omega (arith, right, l)))

  same_size : (a c : Simple) → simple_term a ≡ simple_term c → simple_size a ≡ simple_size c
  same_size a c e = sym (simple_nodes a) ∙ ap annotation_size e ∙ simple_nodes c

  -- a normal function of that rank at a normal argument
  applied_normal : (k : ℕ) {g : List (Option Simple)} {f v : Term} {a b : Simple} → IsNormal C g f (function a b) → HasRank k f → IsNormal C g v a → IsNormal C g (apply_at k f v) b
  applied_normal k {g = g} {v = v} {b = b} (normal_lam {t = t} a h) r n =
      let e = same_size a r.0.0 r.0.1 in
      let l = r.0.2 in
      applies_at C k g (lam (simple_term a) t) v a b (omega (arith, e, l)) (normal_lam a h) n
  applied_normal k {v = v} (normal_neutral h) r n = normal_neutral (rw (apply_neutral C k v h) (neutral_app h n))

  -- the normaliser gives normal objects
  pub object_normal : (k : ℕ) {g : List (Option Simple)} {t : Term} {a : Simple} → IsObject C g t a → HasRank k t → IsNormal C g (normal_at k t) a
  object_normal k (object_var h) r = normal_neutral (neutral_var h)
  object_normal k (object_con g h) r = normal_neutral (neutral_con g h)
  object_normal k (object_lam a h) r = rw (simple_is_normal k a) (normal_lam a (object_normal k h r.1))
  object_normal k (object_app {t = t} h m) r = applied_normal k (object_normal k h r.0) (rank_normal k k t r.0) (object_normal k m r.1)
