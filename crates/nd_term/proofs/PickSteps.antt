-- The variables of the literals, and those that are picked.
use Rattle.std.proofs.Common.{◌≡◌, ◌+◌, ◌-◌, ◌<◌, ◌≤◌, ℕ, zero, suc, List, [], ◌∷◌, ◌++◌, map, drop, length, refl, sym, ap, ◌∙◌, arith, drop_of_length-le}
use Rattle.std.specs.Prelude.{slice_index_or}
use Rattle.std.proofs.lemmas.List.{at_drop_more}
use Rattle.lp_term.specs.LambdaPi.{Term, app, con, shift, var}
use Rattle.lp_term.specs.Names.{any_name}
use Rattle.nd_term.specs.Instances.{applied_to, at_place, pick}
use Rattle.nd_term.specs.Places.{last_variables}
use Rattle.nd_term.proofs.BuildSteps.{build_steps}

pub last_deeper : (n : ℕ) → map shift (last_variables n) ++ var 0 ∷ [] ≡ last_variables (suc n)
last_deeper zero = refl
last_deeper (suc n) = ap (λ ts. var (suc n) ∷ ts) (last_deeper n)

last_index : (n : ℕ) → var n ≡ var (suc n - 1 - 0)
last_index n = let e : n ≡ suc n - 1 - 0 = omega arith in ap var e

next_index : (n k : ℕ) → k < n → var (n - 1 - k) ≡ var (suc n - 1 - suc k)
next_index n k h = let e : n - 1 - k ≡ suc n - 1 - suc k = omega arith in ap var e

pub at_last : (n k : ℕ) → k < n → at_place (last_variables n) k ≡ var (n - 1 - k)
at_last zero k h = let f : ⊥ = omega arith in absurd f
at_last (suc n) zero h = last_index n
at_last (suc n) (suc k) h = let i : k < n = omega arith in at_last n k i ∙ next_index n k i

pub at_none : (n k : ℕ) → n ≤ k → at_place (last_variables n) k ≡ con any_name
at_none zero k h = refl
at_none (suc n) zero h = let f : ⊥ = omega arith in absurd f
at_none (suc n) (suc k) h = let i : n ≤ k = omega arith in at_none n k i

pub at_pivot : (n k : ℕ) (t : Term) → k ≡ n → at_place (last_variables n ++ t ∷ []) k ≡ t
at_pivot zero zero t e = refl
at_pivot zero (suc k) t e = let f : ⊥ = omega arith in absurd f
at_pivot (suc n) zero t e = let f : ⊥ = omega arith in absurd f
at_pivot (suc n) (suc k) t e = let i : k ≡ n = omega arith in at_pivot n k t i

pub at_other : (n k : ℕ) (t : Term) → (k ≡ n → ⊥) → at_place (last_variables n ++ t ∷ []) k ≡ at_place (last_variables n) k
at_other zero zero t h = absurd (h refl)
at_other zero (suc k) t h = refl
at_other (suc n) zero t h = refl
at_other (suc n) (suc k) t h = at_other n k t (λ e. h (ap (λ m. suc m) e))

-- one pick more in a loop over the picks
pub picked_step : (lv : List Term) (ks : List ℕ) (i : ℕ) (t next u : Term) → i < length ks → at_place lv (slice_index_or ks i 0) ≡ u → next ≡ app t u
    → applied_to next (pick lv (drop (i + 1) ks)) ≡ applied_to t (pick lv (drop i ks))
picked_step lv ks i t next u h e q =
    ap (λ x. applied_to x (pick lv (drop (i + 1) ks))) q
    ∙ ap (λ y. applied_to (app t y) (pick lv (drop (i + 1) ks))) (sym e)
    ∙ sym (at_drop_more (λ l. applied_to t (pick lv l)) ks i 0 h)

pub picked_end : (lv : List Term) (ks : List ℕ) (i : ℕ) (t : Term) → length ks ≤ i → t ≡ applied_to t (pick lv (drop i ks))
picked_end lv ks i t h = sym (ap (λ l. applied_to t (pick lv l)) (drop_of_length-le ks h))

pub ruleset pick_steps = (build_steps, last_deeper, at_last, at_none, at_pivot, at_other)
