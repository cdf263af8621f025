-- A typed term has no variable beyond its context, and no symbol but the signature's. What leaves a term's free
-- variables leaves the term.
use Rattle.std.proofs.Common.{◌≡◌, ℕ, zero, suc, ◌<◌, List, length, refl, ap, ap₂, arith}
use Rattle.lp_term.specs.LambdaPi.{Term, app, lam, pi, shift, substitute, under_binder, var}
use Rattle.lp_term.specs.Typing.{Declaration, Gives, HasType, given_here, given_later, has_app, has_con, has_conv, has_lam, has_pi, has_type, has_var}
use Rattle.lp_term.specs.Scope.{Declared, VariablesBelow, below_app, below_con, below_kind, below_lam, below_pat, below_pi, below_type, below_var, declared_app, declared_con, declared_lam, declared_pi, declared_type, declared_var}

at_below : {g : List Term} {n : ℕ} {a : Term} → Gives g n a → n < length g
at_below (given_here g a) = omega arith
at_below (given_later b h) = let k = at_below h in omega arith

lam_below : {n : ℕ} {a b t : Term} → VariablesBelow n (pi a b) → VariablesBelow (suc n) t → VariablesBelow n (lam a t)
lam_below (below_pi h k) l = below_lam h l

pub typed_below : {sig : List Declaration} {g : List Term} {t a : Term} → HasType sig g t a → VariablesBelow (length g) t
typed_below (has_type g) = below_type (length g)
typed_below (has_var h) = below_var _ _ (at_below h)
typed_below (has_con g {s = s} k) = below_con (length g) s
typed_below (has_pi i h k) = below_pi (typed_below h) (typed_below k)
typed_below (has_lam i h k) = lam_below (typed_below h) (typed_below k)
typed_below (has_app h k) = below_app (typed_below h) (typed_below k)
typed_below (has_conv i h e l m) = typed_below h

lam_declared : {sig : List Declaration} {a b t : Term} → Declared sig (pi a b) → Declared sig t → Declared sig (lam a t)
lam_declared (declared_pi h k) l = declared_lam h l

pub typed_declared : {sig : List Declaration} {g : List Term} {t a : Term} → HasType sig g t a → Declared sig t
typed_declared (has_type g) = declared_type
typed_declared (has_var {n = n} h) = declared_var n
typed_declared (has_con g k) = declared_con k
typed_declared (has_pi i h k) = declared_pi (typed_declared h) (typed_declared k)
typed_declared (has_lam i h k) = lam_declared (typed_declared h) (typed_declared k)
typed_declared (has_app h k) = declared_app (typed_declared h) (typed_declared k)
typed_declared (has_conv i h e l m) = typed_declared h

-- ---- closed terms

-- the substitution leaves the variables below the number
abbrev pub Leaves : ℕ → (ℕ → Term) → Type 0
Leaves n s = (k : ℕ) → k < n → s k ≡ var k

leaves_under : (n : ℕ) (s : ℕ → Term) → Leaves n s → Leaves (suc n) (under_binder s)
leaves_under n s h zero l = refl
leaves_under n s h (suc k) l = ap shift (h k (omega (arith, l)))

-- a term whose free variables the substitution leaves
pub below_same : {n : ℕ} {t : Term} (s : ℕ → Term) → Leaves n s → VariablesBelow n t → substitute s t ≡ t
below_same s h (below_type n) = refl
below_same s h (below_kind n) = refl
below_same s h (below_con n name) = refl
below_same s h (below_pat n name) = refl
below_same s h (below_var n k l) = h k l
below_same s h (below_app i j) = ap₂ app (below_same s h i) (below_same s h j)
below_same {n = n} s h (below_lam i j) = ap₂ lam (below_same s h i) (below_same (under_binder s) (leaves_under n s h) j)
below_same {n = n} s h (below_pi i j) = ap₂ pi (below_same s h i) (below_same (under_binder s) (leaves_under n s h) j)
