-- Typing under renaming and substitution.
use Rattle.std.proofs.Common.{◌≡◌, ℕ, zero, suc, List, ◌∷◌, refl, ◌∙◌, subst}
use Rattle.lp_term.specs.LambdaPi.{Term, for_last, instantiate, rename, shift, substitute, under_binder, under_renaming, var}
use Rattle.lp_term.specs.Typing.{Declaration, Declares, Gives, HasType, IsSort, given_here, given_later, has_app, has_con, has_conv, has_lam, has_pi, has_type, has_var, sort_kind, sort_type}
use Rattle.lp_term.proofs.SubstitutionLaws.{instantiate_shift, rename_instantiate, rename_is_substitute, shift_rename, shift_substitute, substitute_instantiate}
use Rattle.lp_term.proofs.ConversionLaws.{convertible_rename, convertible_substitute}

-- the same typing at an equal type
pub retype : {sig : List Declaration} {g : List Term} {t a b : Term} → a ≡ b → HasType sig g t a → HasType sig g t b
retype {sig = sig} {g = g} {t = t} e h = subst (λ x. HasType sig g t x) e h

-- each declared type has no free variable
pub record Closed (sig : List Declaration) : Type 0 where
  pub substitute_same : (x : List ℕ) (a : Term) → Declares sig x a → (s : ℕ → Term) → substitute s a ≡ a

pub rename_closed : {sig : List Declaration} → Closed sig → (x : List ℕ) (a : Term) → Declares sig x a → (r : ℕ → ℕ) → rename r a ≡ a
rename_closed c x a k r = rename_is_substitute a r ∙ c.substitute_same x a k (λ n. var (r n))

-- a renaming that keeps the types
pub record Renames (g d : List Term) (r : ℕ → ℕ) : Type 0 where
  pub keeps : (n : ℕ) (a : Term) → Gives g n a → Gives d (r n) (rename r a)

rename_sort : {s : Term} (r : ℕ → ℕ) → IsSort s → rename r s ≡ s
rename_sort r sort_type = refl
rename_sort r sort_kind = refl

up_keeps : {g d : List Term} (r : ℕ → ℕ) (c : Term) → Renames g d r → (n : ℕ) (a : Term) → Gives (c ∷ g) n a → Gives (rename r c ∷ d) (under_renaming r n) (rename (under_renaming r) a)
up_keeps r c h zero a (given_here g b) = rw shift_rename (given_here _ (rename r c))
up_keeps r c h (suc n) a (given_later {a = b} e k) = rw shift_rename (given_later (rename r c) (h.keeps n b k))

pub renames_under : {g d : List Term} (r : ℕ → ℕ) (c : Term) → Renames g d r → Renames (c ∷ g) (rename r c ∷ d) (under_renaming r)
renames_under r c h = record { keeps = up_keeps r c h }

pub renames_suc : (g : List Term) (c : Term) → Renames g (c ∷ g) (λ n. suc n)
renames_suc g c = record { keeps = λ n a h. given_later c h }

-- a typing holds after a renaming
pub types_rename : {sig : List Declaration} {g : List Term} {t a : Term} (d : List Term) (r : ℕ → ℕ) → Closed sig → Renames g d r → HasType sig g t a → HasType sig d (rename r t) (rename r a)
types_rename d r c h (has_type g) = has_type d
types_rename d r c h (has_var {n = n} {a = a} k) = has_var (h.keeps n a k)
types_rename d r c h (has_con g {s = s} {a = a} k) = rw (rename_closed c s a k r) (has_con d k)
types_rename d r c h (has_pi {a = a} i k l) =
    rw (rename_sort r i) (has_pi i (types_rename d r c h k) (rw (rename_sort (under_renaming r) i) at (types_rename (rename r a ∷ d) (under_renaming r) c (renames_under r a h) l)))
types_rename d r c h (has_lam {a = a} i k l) =
    has_lam (rw (rename_sort r i) i) (types_rename d r c h k) (types_rename (rename r a ∷ d) (under_renaming r) c (renames_under r a h) l)
types_rename d r c h (has_app {b = b} {u = u} k l) = rw rename_instantiate (has_app (types_rename d r c h k) (types_rename d r c h l))
types_rename d r c h (has_conv i k e l m) =
    has_conv (rw (rename_sort r i) i) (types_rename d r c h k) (convertible_rename r e) (types_rename d r c h l) (types_rename d r c h m)

-- a typing holds with one more variable
pub weaken : {sig : List Declaration} {g : List Term} {t a : Term} (b : Term) → Closed sig → HasType sig g t a → HasType sig (b ∷ g) (shift t) (shift a)
weaken {g = g} b c h = types_rename (b ∷ g) (λ n. suc n) c (renames_suc g b) h

-- a substitution by terms of the types
pub record Substitutes (sig : List Declaration) (g d : List Term) (s : ℕ → Term) : Type 0 where
  pub keeps : (n : ℕ) (a : Term) → Gives g n a → HasType sig d (s n) (substitute s a)

up_types : {sig : List Declaration} {g d : List Term} (s : ℕ → Term) (e : Term) → Closed sig → Substitutes sig g d s → (n : ℕ) (a : Term) → Gives (e ∷ g) n a → HasType sig (substitute s e ∷ d) (under_binder s n) (substitute (under_binder s) a)
up_types s e c h zero a (given_here g b) = rw shift_substitute (has_var (given_here _ (substitute s e)))
up_types s e c h (suc n) a (given_later {a = b} f k) = rw shift_substitute (weaken (substitute s e) c (h.keeps n b k))

pub substitutes_under : {sig : List Declaration} {g d : List Term} (s : ℕ → Term) (e : Term) → Closed sig → Substitutes sig g d s → Substitutes sig (e ∷ g) (substitute s e ∷ d) (under_binder s)
substitutes_under s e c h = record { keeps = up_types s e c h }

substitute_sort : {x : Term} (s : ℕ → Term) → IsSort x → substitute s x ≡ x
substitute_sort s sort_type = refl
substitute_sort s sort_kind = refl

-- a typing holds after a substitution
pub types_substitute : {sig : List Declaration} {g : List Term} {t a : Term} (d : List Term) (s : ℕ → Term) → Closed sig → Substitutes sig g d s → HasType sig g t a → HasType sig d (substitute s t) (substitute s a)
types_substitute d s c h (has_type g) = has_type d
types_substitute d s c h (has_var {n = n} {a = a} k) = h.keeps n a k
types_substitute d s c h (has_con g {s = x} {a = a} k) = rw (c.substitute_same x a k s) (has_con d k)
types_substitute d s c h (has_pi {a = a} i k l) =
    rw (substitute_sort s i) (has_pi i (types_substitute d s c h k) (rw (substitute_sort (under_binder s) i) at (types_substitute (substitute s a ∷ d) (under_binder s) c (substitutes_under s a c h) l)))
types_substitute d s c h (has_lam {a = a} i k l) =
    has_lam (rw (substitute_sort s i) i) (types_substitute d s c h k) (types_substitute (substitute s a ∷ d) (under_binder s) c (substitutes_under s a c h) l)
types_substitute d s c h (has_app {b = b} {u = u} k l) = rw substitute_instantiate (has_app (types_substitute d s c h k) (types_substitute d s c h l))
types_substitute d s c h (has_conv i k e l m) =
    has_conv (rw (substitute_sort s i) i) (types_substitute d s c h k) (convertible_substitute s e) (types_substitute d s c h l) (types_substitute d s c h m)

at_zero_keeps : {sig : List Declaration} {g : List Term} {u b : Term} → HasType sig g u b → (n : ℕ) (a : Term) → Gives (b ∷ g) n a → HasType sig g (for_last u n) (substitute (for_last u) a)
at_zero_keeps {u = u} h zero a (given_here g b) = rw (instantiate_shift b u) h
at_zero_keeps {u = u} h (suc n) a (given_later {a = b} f k) = rw (instantiate_shift b u) (has_var k)

-- a term put in for the last variable
pub types_instantiate : {sig : List Declaration} {g : List Term} {t a u b : Term} → Closed sig → HasType sig (b ∷ g) t a → HasType sig g u b → HasType sig g (instantiate t u) (instantiate a u)
types_instantiate {g = g} {u = u} c h k = types_substitute g (for_last u) c (record { keeps = at_zero_keeps k }) h
