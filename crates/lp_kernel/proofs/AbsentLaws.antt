-- What is put for a variable that no object has, doesn't matter.
use Rattle.std.proofs.Common.{◌≡◌, ℕ, zero, suc, List, ◌∷◌, Option, Some, None, refl, sym, ap, ap₂, ◌∙◌, subst}
use Rattle.lp_term.specs.LambdaPi.{Term, con, app, lam, pi, shift, under_binder, for_last}
use Rattle.lp_term.specs.Names.{prf_name}
use Rattle.lp_exact.specs.Normalisation.{put_with, put_at, apply_at}
use Rattle.lp_exact.specs.Objects.{Simple, function, simple_of, HasSimple, simple_here, simple_later, IsNormal, normal_lam, normal_neutral, IsNeutral, neutral_var, neutral_con, neutral_app, IsLazy, lazy_individuals, lazy_propositions, lazy_proof, lazy_pi}
use Rattle.lp_exact.proofs.ObjectLaws.{simple_put, apply_neutral, neutral_renames, renames_simple_suc}
use Rattle.lp_exact.proofs.FullTypeLaws.{apply_symbol}

module _ (C : List ℕ → Simple → Type 0) where
  -- two substitutions that put the same for each object's variable, and no abstraction
  record PutTheSame (g d : List (Option Simple)) (s q : ℕ → Term) : Type 0 where
    at : (n : ℕ) (a : Simple) → HasSimple g n a → IsNeutral C d (s n) a × (s n ≡ q n)

  same_at : {g d : List (Option Simple)} {s q : ℕ → Term} (b : Option Simple) → PutTheSame g d s q → (n : ℕ) (a : Simple) → HasSimple (b ∷ g) n a → IsNeutral C (b ∷ d) (under_binder s n) a × (under_binder s n ≡ under_binder q n)
  same_at {d = d} b h zero a (simple_here g c) = (neutral_var (simple_here d a), refl)
  same_at {d = d} b h (suc n) a (simple_later c k) = let i = h.at n a k in (neutral_renames C i.0 (b ∷ d) (λ m. suc m) (renames_simple_suc d b), ap shift i.1)

  same_under : {g d : List (Option Simple)} {s q : ℕ → Term} (b : Option Simple) → PutTheSame g d s q → PutTheSame (b ∷ g) (b ∷ d) (under_binder s) (under_binder q)
  same_under b h = record { at = same_at b h }

  mutual
    normal_same : {g : List (Option Simple)} {t : Term} {a : Simple} → IsNormal C g t a → (k m : ℕ) (d : List (Option Simple)) (s q : ℕ → Term) → PutTheSame g d s q → IsNormal C d (put_with (apply_at k) s t) a × (put_with (apply_at k) s t ≡ put_with (apply_at m) q t)
    normal_same (normal_lam a h) k m d s q e =
        let i = normal_same h k m (Some a ∷ d) (under_binder s) (under_binder q) (same_under (Some a) e) in
        (rw (simple_put (apply_at k) a s) (normal_lam a i.0), ap₂ lam (simple_put (apply_at k) a s ∙ sym (simple_put (apply_at m) a q)) i.1)
    normal_same (normal_neutral h) k m d s q e = let i = neutral_same h k m d s q e in (normal_neutral i.0, i.1)

    neutral_same : {g : List (Option Simple)} {t : Term} {a : Simple} → IsNeutral C g t a → (k m : ℕ) (d : List (Option Simple)) (s q : ℕ → Term) → PutTheSame g d s q → IsNeutral C d (put_with (apply_at k) s t) a × (put_with (apply_at k) s t ≡ put_with (apply_at m) q t)
    neutral_same (neutral_var {n = n} {a = a} h) k m d s q e = e.at n a h
    neutral_same (neutral_con g h) k m d s q e = (neutral_con d h, refl)
    neutral_same (neutral_app {t = t} {u = u} {a = a} {b = b} h l) k m d s q e =
        let i = neutral_same h k m d s q e in
        let j = normal_same l k m d s q e in
        let f : IsNeutral C d (put_with (apply_at m) q t) (function a b) = subst (λ x. IsNeutral C d x (function a b)) i.1 i.0 in (
          rw (apply_neutral C k (put_with (apply_at k) s u) i.0) (neutral_app i.0 j.0),
          apply_neutral C k (put_with (apply_at k) s u) i.0 ∙ ap₂ app i.1 j.1 ∙ sym (apply_neutral C m (put_with (apply_at m) q u) f),
        )

  lazy_same : {g : List (Option Simple)} {t : Term} → IsLazy C g t → (k m : ℕ) (d : List (Option Simple)) (s q : ℕ → Term) → PutTheSame g d s q → put_with (apply_at k) s t ≡ put_with (apply_at m) q t
  lazy_same (lazy_individuals g) k m d s q e = refl
  lazy_same (lazy_propositions g) k m d s q e = refl
  lazy_same (lazy_proof {o = o} h) k m d s q e =
      apply_symbol k prf_name (put_with (apply_at k) s o) ∙ ap (app (con prf_name)) (normal_same h k m d s q e).1 ∙ sym (apply_symbol m prf_name (put_with (apply_at m) q o))
  lazy_same (lazy_pi {a = a} h l) k m d s q e =
      ap₂ pi (lazy_same h k m d s q e) (lazy_same l k m (simple_of a ∷ d) (under_binder s) (under_binder q) (same_under (simple_of a) e))

  last_same : {g : List (Option Simple)} (u v : Term) (n : ℕ) (a : Simple) → HasSimple (None ∷ g) n a → IsNeutral C g (for_last u n) a × (for_last u n ≡ for_last v n)
  last_same u v zero a h = elim h [ ]
  last_same u v (suc n) a (simple_later c h) = (neutral_var h, refl)

  -- a type below a proof's binder
  pub put_any : {g : List (Option Simple)} {b : Term} → IsLazy C (None ∷ g) b → (k m : ℕ) (u v : Term) → put_at k u b ≡ put_at m v b
  put_any {g = g} h k m u v = lazy_same h k m g (for_last u) (for_last v) (record { at = last_same u v })
