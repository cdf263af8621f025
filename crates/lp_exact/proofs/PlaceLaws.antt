-- A substitution at a place, as the program reads it.
use Rattle.std.proofs.Common.{◌≡◌, ◌≢◌, ℕ, zero, suc, ◌+◌, ◌-◌, ◌<◌, inl, inr, refl, sym, ap, ap₂, ◌∙◌, arith, add-one, nat_lt, if◌then◌else◌}
use Rattle.std.proofs.lemmas.Bool.{cases_order}
use Rattle.std.proofs.lemmas.Bool.Decides.{nat_tests}
use Rattle.lp_term.specs.LambdaPi.{Term, type, kind, con, pat, var, app, lam, pi, shift, rename, under_binder, for_last, for_place}
use Rattle.lp_term.specs.View.{term_of}
use Rattle.lp_term.specs.Substitution.{lifted}
use Rattle.lp_term.specs.declared.lp.Lp.{Lp}
use Rattle.lp_term.proofs.SubstitutionLaws.{ext, rename_rename, rename_is_substitute, substitute_var}
use Rattle.lp_term.proofs.ViewLaws.{view_lifted}
use Rattle.lp_exact.specs.Normalisation.{put_with, apply_with, apply_at}
use Rattle.lp_exact.specs.Placing.{placed_variable, placed_with, cost_apply_with, cost_apply}

pub place_next : (u : Term) (n : ℕ) → for_place u (n + 1) ≡ under_binder (for_place u n)
place_next u n = rw add-one refl

-- the variables below, at and above the place
pub place_below : (u : Term) (p n : ℕ) → n < p → for_place u p n ≡ var n
place_below u zero n h = absurd (omega arith)
place_below u (suc p) zero h = refl
place_below u (suc p) (suc n) h = ap shift (place_below u p n (omega arith))

pub rename_same : (t : Term) → rename (λ n. n) t ≡ t
rename_same t = rename_is_substitute t (λ n. n) ∙ substitute_var t

pub plus_zero : (m : ℕ) → m ≡ m + 0
plus_zero m = omega arith

pub plus_suc : (p m : ℕ) → suc (m + p) ≡ m + suc p
plus_suc p m = omega arith

at_place : (u : Term) (p : ℕ) → for_place u p p ≡ rename (λ m. m + p) u
at_place u zero = sym (rename_same u) ∙ ap (λ f. rename f u) (ext plus_zero)
at_place u (suc p) = ap shift (at_place u p) ∙ rename_rename u (λ n. suc n) (λ m. m + p) ∙ ap (λ f. rename f u) (ext (plus_suc p))

raised_all : (p m : ℕ) → (if nat_lt m 0 then m else m + p) ≡ m + p
raised_all p m = grind (arith, nat_tests)

-- a term raised past all binders passed
pub lifted_all : (by : Lp) (p : ℕ) → term_of (lifted p by 0) ≡ rename (λ m. m + p) (term_of by)
lifted_all by p = view_lifted p by 0 ∙ ap (λ r. rename r (term_of by)) (ext (raised_all p))

suc_pred : (n : ℕ) → 0 < n → suc (n - 1) ≡ n
suc_pred n h = omega arith

pub place_above : (u : Term) (p n : ℕ) → p < n → for_place u p n ≡ var (n - 1)
place_above u p zero h = absurd (omega arith)
place_above u zero (suc n) h = ap var (omega arith)
place_above u (suc p) (suc n) h = ap shift (place_above u p n (omega arith)) ∙ ap var (omega arith)

-- the same of the program's variables
variable_below : (u : Term) (p n : ℕ) → n < p → placed_variable u n p ≡ var n
variable_below u p n h = grind (arith, nat_tests)

variable_above : (u : Term) (p n : ℕ) → p < n → placed_variable u n p ≡ var (n - 1)
variable_above u p n h = grind (arith, nat_tests)

variable_here : (u : Term) (p n : ℕ) → n ≡ p → placed_variable u n p ≡ rename (λ m. m + p) u
variable_here u p n h = grind (arith, nat_tests)

-- the last variable replaced, as the program has it
pub lifted_placed : (by : Lp) (n p : ℕ) → n ≡ p → (r : Lp) → r ≡ lifted p by 0 → term_of r ≡ placed_variable (term_of by) n p
lifted_placed by n p h r e = ap term_of e ∙ lifted_all by p ∙ sym (variable_here (term_of by) p n h)

variable_is : (u : Term) (p n : ℕ) → placed_variable u n p ≡ for_place u p n
variable_is u p n = elim (cases_order n p) [
  | inl e ↦ variable_here u p n e ∙ sym (at_place u p) ∙ ap (for_place u p) (sym e)
  | inr h ↦ elim h [
    | inl l ↦ variable_below u p n l ∙ sym (place_below u p n l)
    | inr l ↦ variable_above u p n l ∙ sym (place_above u p n l)
  ]
]

next_put : (p : Term → Term → Term) {s q : ℕ → Term} → s ≡ q → (t : Term) → put_with p s t ≡ put_with p q t
next_put p e t = ap (λ x. put_with p x t) e

-- the program's substitution is the parallel one
placed_is : (f : Term → Term → Term) (u t : Term) (p : ℕ) → placed_with f u t p ≡ put_with f (for_place u p) t
placed_is f u type p = refl
placed_is f u kind p = refl
placed_is f u (con x) p = refl
placed_is f u (pat x) p = refl
placed_is f u (var n) p = variable_is u p n
placed_is f u (app t v) p = ap₂ f (placed_is f u t p) (placed_is f u v p)
placed_is f u (lam a t) p = ap₂ lam (placed_is f u a p) (placed_is f u t (p + 1) ∙ next_put f (place_next u p) t)
placed_is f u (pi a b) p = ap₂ pi (placed_is f u a p) (placed_is f u b (p + 1) ∙ next_put f (place_next u p) b)

-- at the last variable
pub placed_last : (f : Term → Term → Term) (u t : Term) → placed_with f u t 0 ≡ put_with f (for_last u) t
placed_last f u t = placed_is f u t 0

pub apply_next : (k : ℕ) (f v : Term) → k ≢ 0 → apply_at k f v ≡ apply_with (apply_at (k - 1)) f v
apply_next zero f v h = absurd (h refl)
apply_next (suc k) f v h = ap (λ n. apply_with (apply_at n) f v) (omega arith)

-- a normal function that is an abstraction, at its argument
pub apply_placed : (k : ℕ) (f a t v r : Term) → k ≢ 0 → f ≡ lam a t → r ≡ placed_with (apply_at (k - 1)) v t 0 → r ≡ apply_at k f v
apply_placed k f a t v r h e l = l ∙ placed_last (apply_at (k - 1)) v t ∙ ap (λ x. apply_with (apply_at (k - 1)) x v) (sym e) ∙ sym (apply_next k f v h)

pub cost_next : (k : ℕ) (f v : Term) → k ≢ 0 → cost_apply k f v ≡ cost_apply_with (apply_at (k - 1)) (cost_apply (k - 1)) f v
cost_next zero f v h = absurd (h refl)
cost_next (suc k) f v h = ap (λ n. cost_apply_with (apply_at n) (cost_apply n) f v) (omega arith)
