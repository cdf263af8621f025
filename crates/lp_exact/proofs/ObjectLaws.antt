-- Normalisation reduces, and gives normal objects.
use Rattle.std.proofs.Common.{◌≡◌, ℕ, zero, suc, ◌+◌, ◌≤◌, List, ◌∷◌, Option, Some, None, ◌⊎◌, inl, inr, refl, ap, ap₂, subst, arith}
use Rattle.lp_term.specs.LambdaPi.{Term, type, kind, con, pat, var, app, lam, pi, under_renaming, rename, shift, under_binder, substitute, for_last, instantiate}
use Rattle.lp_term.specs.Names.{prf_name}
use Rattle.lp_term.specs.Conversion.{Rewrites}
use Rattle.lp_exact.specs.Normalisation.{put_with, apply_at, put_at, normal_at}
use Rattle.lp_exact.specs.Objects.{Simple, individual, truth, function, simple_term, simple_size, HasSimple, simple_here, simple_later, IsNormal, normal_lam, normal_neutral, IsNeutral, neutral_var, neutral_con, neutral_app}
use Rattle.lp_exact.specs.Reduction.{StepsTo, step_beta, step_rule, step_function, step_argument, step_annotation, step_body, step_domain, step_codomain}
use Rattle.lp_exact.specs.ParallelReduction.{root_beta, ParallelSteps, no_parallel}
use Rattle.lp_exact.proofs.ParallelLaws.{rule_head}
use Rattle.lp_exact.proofs.ConfluenceLaws.{parallels_append, parallels_app, parallels_lam, parallels_pi, root_parallels}

-- ---- it reduces

-- a substitution reduces where the applications that it makes do
put_reduces : (ap : Term → Term → Term) → ((f v : Term) → ParallelSteps (app f v) (ap f v)) → (s : ℕ → Term) (t : Term) → ParallelSteps (substitute s t) (put_with ap s t)
put_reduces ap h s type = no_parallel _
put_reduces ap h s kind = no_parallel _
put_reduces ap h s (con x) = no_parallel _
put_reduces ap h s (pat x) = no_parallel _
put_reduces ap h s (var n) = no_parallel _
put_reduces ap h s (app t u) = parallels_append (parallels_app (put_reduces ap h s t) (put_reduces ap h s u)) (h (put_with ap s t) (put_with ap s u))
put_reduces ap h s (lam a t) = parallels_lam (put_reduces ap h s a) (put_reduces ap h (under_binder s) t)
put_reduces ap h s (pi a b) = parallels_pi (put_reduces ap h s a) (put_reduces ap h (under_binder s) b)

pub apply_reduces : (k : ℕ) (f v : Term) → ParallelSteps (app f v) (apply_at k f v)
apply_reduces zero f v = no_parallel _
apply_reduces (suc k) (lam a t) v = parallels_append (root_parallels (root_beta a t v)) (put_reduces (apply_at k) (apply_reduces k) (for_last v) t)
apply_reduces (suc k) type v = no_parallel _
apply_reduces (suc k) kind v = no_parallel _
apply_reduces (suc k) (con x) v = no_parallel _
apply_reduces (suc k) (pat x) v = no_parallel _
apply_reduces (suc k) (var n) v = no_parallel _
apply_reduces (suc k) (app f u) v = no_parallel _
apply_reduces (suc k) (pi a b) v = no_parallel _

pub put_at_reduces : (k : ℕ) (u t : Term) → ParallelSteps (instantiate t u) (put_at k u t)
put_at_reduces k u t = put_reduces (apply_at k) (apply_reduces k) (for_last u) t

pub normal_reduces : (k : ℕ) (t : Term) → ParallelSteps t (normal_at k t)
normal_reduces k type = no_parallel _
normal_reduces k kind = no_parallel _
normal_reduces k (con x) = no_parallel _
normal_reduces k (pat x) = no_parallel _
normal_reduces k (var n) = no_parallel _
normal_reduces k (app t u) = parallels_append (parallels_app (normal_reduces k t) (normal_reduces k u)) (apply_reduces k (normal_at k t) (normal_at k u))
normal_reduces k (lam a t) = parallels_lam (normal_reduces k a) (normal_reduces k t)
normal_reduces k (pi a b) = parallels_pi (normal_reduces k a) (normal_reduces k b)

-- ---- what has a simple type keeps it

pub record RenamesSimple (g d : List (Option Simple)) (r : ℕ → ℕ) : Type 0 where
  pub at : (n : ℕ) (a : Simple) → HasSimple g n a → HasSimple d (r n) a

-- a renaming under a binder
renames_simple_at : {g d : List (Option Simple)} {r : ℕ → ℕ} (b : Option Simple) → RenamesSimple g d r → (n : ℕ) (a : Simple) → HasSimple (b ∷ g) n a → HasSimple (b ∷ d) (under_renaming r n) a
renames_simple_at {d = d} b h zero a (simple_here g c) = simple_here d a
renames_simple_at b h (suc n) a (simple_later c k) = simple_later b (h.at n a k)

pub renames_simple_under : {g d : List (Option Simple)} {r : ℕ → ℕ} (b : Option Simple) → RenamesSimple g d r → RenamesSimple (b ∷ g) (b ∷ d) (under_renaming r)
renames_simple_under b h = record { at = renames_simple_at b h }

pub renames_simple_suc : (g : List (Option Simple)) (b : Option Simple) → RenamesSimple g (b ∷ g) (λ n. suc n)
renames_simple_suc g b = record { at = λ n a h. simple_later b h }

pub simple_renamed : (a : Simple) (r : ℕ → ℕ) → rename r (simple_term a) ≡ simple_term a
simple_renamed individual r = refl
simple_renamed truth r = refl
simple_renamed (function a b) r = ap₂ pi (simple_renamed a r) (simple_renamed b (under_renaming r))

pub simple_put : (p : Term → Term → Term) (a : Simple) (s : ℕ → Term) → put_with p s (simple_term a) ≡ simple_term a
simple_put p individual s = refl
simple_put p truth s = refl
simple_put p (function a b) s = ap₂ pi (simple_put p a s) (simple_put p b (under_binder s))

pub simple_is_normal : (k : ℕ) (a : Simple) → normal_at k (simple_term a) ≡ simple_term a
simple_is_normal k individual = refl
simple_is_normal k truth = refl
simple_is_normal k (function a b) = ap₂ pi (simple_is_normal k a) (simple_is_normal k b)

module _ (C : List ℕ → Simple → Type 0) where
  mutual
    pub normal_renames : {g : List (Option Simple)} {t : Term} {a : Simple} → IsNormal C g t a → (d : List (Option Simple)) (r : ℕ → ℕ) → RenamesSimple g d r → IsNormal C d (rename r t) a
    normal_renames (normal_lam a h) d r m = rw (simple_renamed a r) (normal_lam a (normal_renames h (Some a ∷ d) (under_renaming r) (renames_simple_under (Some a) m)))
    normal_renames (normal_neutral h) d r m = normal_neutral (neutral_renames h d r m)

    pub neutral_renames : {g : List (Option Simple)} {t : Term} {a : Simple} → IsNeutral C g t a → (d : List (Option Simple)) (r : ℕ → ℕ) → RenamesSimple g d r → IsNeutral C d (rename r t) a
    neutral_renames (neutral_var {n = n} {a = a} h) d r m = neutral_var (m.at n a h)
    neutral_renames (neutral_con g h) d r m = neutral_con d h
    neutral_renames (neutral_app h k) d r m = neutral_app (neutral_renames h d r m) (normal_renames k d r m)

  -- what stands for a variable: no abstraction, or of a small type
  abbrev pub IsEntry : ℕ → List (Option Simple) → Term → Simple → Type 0
  IsEntry k d t a = IsNeutral C d t a ⊎ (IsNormal C d t a × (simple_size a ≤ suc k))

  entry_under : {k : ℕ} {d : List (Option Simple)} {t : Term} {a : Simple} (b : Option Simple) → IsEntry k d t a → IsEntry k (b ∷ d) (shift t) a
  entry_under {d = d} b (inl h) = inl (neutral_renames h (b ∷ d) (λ n. suc n) (renames_simple_suc d b))
  entry_under {d = d} b (inr h) = inr (normal_renames h.0 (b ∷ d) (λ n. suc n) (renames_simple_suc d b), h.1)

  pub record PutsEntries (k : ℕ) (g d : List (Option Simple)) (s : ℕ → Term) : Type 0 where
    pub at : (n : ℕ) (a : Simple) → HasSimple g n a → IsEntry k d (s n) a

  puts_entry : {k : ℕ} {g d : List (Option Simple)} {s : ℕ → Term} (b : Option Simple) → PutsEntries k g d s → (n : ℕ) (a : Simple) → HasSimple (b ∷ g) n a → IsEntry k (b ∷ d) (under_binder s n) a
  puts_entry {d = d} b h zero a (simple_here g c) = inl (neutral_var (simple_here d a))
  puts_entry b h (suc n) a (simple_later c k) = entry_under b (h.at n a k)

  pub puts_under : {k : ℕ} {g d : List (Option Simple)} {s : ℕ → Term} (b : Option Simple) → PutsEntries k g d s → PutsEntries k (b ∷ g) (b ∷ d) (under_binder s)
  puts_under b h = record { at = puts_entry b h }

  -- a neutral function makes no redex
  pub apply_neutral : (k : ℕ) {d : List (Option Simple)} {f : Term} {a : Simple} (v : Term) → IsNeutral C d f a → apply_at k f v ≡ app f v
  apply_neutral zero v h = refl
  apply_neutral (suc k) v (neutral_var h) = refl
  apply_neutral (suc k) v (neutral_con g h) = refl
  apply_neutral (suc k) v (neutral_app h l) = refl

  -- an application at this size gives normal objects
  abbrev AppliesAt : ℕ → Type 0
  AppliesAt k = (d : List (Option Simple)) (f v : Term) (a b : Simple) → simple_size a ≤ k → IsNormal C d f (function a b) → IsNormal C d v a → IsNormal C d (apply_at k f v) b

  mutual
    put_normal : {g : List (Option Simple)} {t : Term} {a : Simple} → IsNormal C g t a → (k : ℕ) → AppliesAt k → (d : List (Option Simple)) (s : ℕ → Term) → PutsEntries k g d s → IsNormal C d (put_with (apply_at k) s t) a
    put_normal (normal_lam a h) k w d s p = rw (simple_put (apply_at k) a s) (normal_lam a (put_normal h k w (Some a ∷ d) (under_binder s) (puts_under (Some a) p)))
    put_normal (normal_neutral h) k w d s p = elim (put_neutral h k w d s p) [ inl e ↦ normal_neutral e | inr e ↦ e.0 ]

    put_neutral : {g : List (Option Simple)} {t : Term} {a : Simple} → IsNeutral C g t a → (k : ℕ) → AppliesAt k → (d : List (Option Simple)) (s : ℕ → Term) → PutsEntries k g d s → IsEntry k d (put_with (apply_at k) s t) a
    put_neutral (neutral_var {n = n} {a = a} h) k w d s p = p.at n a h
    put_neutral (neutral_con g h) k w d s p = inl (neutral_con d h)
    put_neutral (neutral_app {a = a} {b = b} h l) k w d s p =
        let n = put_normal l k w d s p in
        elim (put_neutral h k w d s p) [
          | inl e ↦ inl (rw (apply_neutral k _ e) (neutral_app e n))
          | inr e ↦ let m : simple_size a + simple_size b + 1 ≤ suc k = e.1 in inr (w d _ _ a b (omega (arith, m)) e.0 n, omega (arith, m))
        ]

  pub puts_last : {k : ℕ} {g : List (Option Simple)} {u : Term} {a : Simple} → simple_size a ≤ suc k → IsNormal C g u a → PutsEntries k (Some a ∷ g) g (for_last u)
  puts_last {k = k} {g = g} {u = u} {a = a} l h = record { at = go }
    where
      go : (n : ℕ) (b : Simple) → HasSimple (Some a ∷ g) n b → IsEntry k g (for_last u n) b
      go zero b (simple_here g c) = inr (h, l)
      go (suc n) b (simple_later c m) = inl (neutral_var m)

  -- any term may stand for a variable that is no object's
  pub puts_proof : {k : ℕ} {g : List (Option Simple)} (u : Term) → PutsEntries k (None ∷ g) g (for_last u)
  puts_proof {k = k} {g = g} u = record { at = go }
    where
      go : (n : ℕ) (b : Simple) → HasSimple (None ∷ g) n b → IsEntry k g (for_last u n) b
      go zero b x = elim x [ ]
      go (suc n) b (simple_later c m) = inl (neutral_var m)

  size_positive : (a : Simple) → simple_size a ≤ 0 → ⊥
  size_positive individual h = omega arith
  size_positive truth h = omega arith
  size_positive (function a b) h = omega arith

  -- an application at any size gives normal objects
  pub applies_at : (k : ℕ) → AppliesAt k
  applies_at zero d f v a b l h n = absurd (size_positive a l)
  applies_at (suc k) d _ v a b l (normal_lam _ h) n = put_normal h k (applies_at k) d (for_last v) (puts_last l n)
  applies_at (suc k) d f v a b l (normal_neutral h) n = normal_neutral (rw (apply_neutral (suc k) v h) (neutral_app h n))

  -- normal objects stay normal
  pub put_keeps : {k : ℕ} {g d : List (Option Simple)} {s : ℕ → Term} {t : Term} {a : Simple} → PutsEntries k g d s → IsNormal C g t a → IsNormal C d (put_with (apply_at k) s t) a
  put_keeps {k = k} {d = d} {s = s} p h = put_normal h k (applies_at k) d s p

  -- ---- no step leads on from a normal object

  no_rule_of_lam : {a t v : Term} → Rewrites (lam a t) v → ⊥
  no_rule_of_lam = elim [ ]

  pub no_rule_of_pi : {a t v : Term} → Rewrites (pi a t) v → ⊥
  no_rule_of_pi = elim [ ]

  pub no_rule_of_con : {x : List ℕ} {v : Term} → Rewrites (con x) v → ⊥
  no_rule_of_con = elim [ ]

  no_rule_of_var : {n : ℕ} {v : Term} → Rewrites (var n) v → ⊥
  no_rule_of_var = elim [ ]

  -- no step leads on from a simple type
  simple_stops : (a : Simple) {u : Term} → StepsTo (simple_term a) u → ⊥
  simple_stops individual (step_rule r) = no_rule_of_con r
  simple_stops truth (step_rule r) = no_rule_of_con r
  simple_stops (function a b) (step_rule r) = no_rule_of_pi r
  simple_stops (function a b) (step_domain c h) = simple_stops a h
  simple_stops (function a b) (step_codomain c h) = simple_stops b h

  neutral_no_lam : {g : List (Option Simple)} {a t : Term} {b : Simple} → IsNeutral C g (lam a t) b → ⊥
  neutral_no_lam = elim [ ]

  neutral_no_proof : {g : List (Option Simple)} {t : Term} {b : Simple} → ((a : Simple) → C prf_name a → ⊥) → t ≡ con prf_name → IsNeutral C g t b → ⊥
  neutral_no_proof w e (neutral_var h) = cc
  neutral_no_proof w e (neutral_con g {x = x} {a = a} h) = let f : x ≡ prf_name = cc in w a (subst (λ y. C y a) f h)
  neutral_no_proof w e (neutral_app h k) = cc

  mutual
    pub normal_stops : {g : List (Option Simple)} {t u : Term} {a : Simple} → IsNormal C g t a → ((b : Simple) → C prf_name b → ⊥) → StepsTo t u → ⊥
    normal_stops (normal_lam a h) w (step_rule r) = no_rule_of_lam r
    normal_stops (normal_lam a h) w (step_annotation t k) = simple_stops a k
    normal_stops (normal_lam a h) w (step_body c k) = normal_stops h w k
    normal_stops (normal_neutral h) w k = neutral_stops h w k

    neutral_stops : {g : List (Option Simple)} {t u : Term} {a : Simple} → IsNeutral C g t a → ((b : Simple) → C prf_name b → ⊥) → StepsTo t u → ⊥
    neutral_stops (neutral_var h) w (step_rule r) = no_rule_of_var r
    neutral_stops (neutral_con g h) w (step_rule r) = no_rule_of_con r
    neutral_stops (neutral_app h k) w (step_beta a t u) = neutral_no_lam h
    neutral_stops (neutral_app h k) w (step_rule r) = neutral_no_proof w (rule_head r) h
    neutral_stops (neutral_app h k) w (step_function u l) = neutral_stops h w l
    neutral_stops (neutral_app h k) w (step_argument t l) = normal_stops k w l
