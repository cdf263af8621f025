-- A value put at a place among the values of the variables: those from the place on move up.
use Rattle.std.proofs.Common.{◌≡◌, ℕ, zero, suc, ◌<◌, ◌≤◌, refl, arith}
use Rattle.normal_form.specs.Truth.{with_value}

abbrev pub put_value : {D : Type 0} → ℕ → D → (ℕ → D) → ℕ → D
put_value zero d e = with_value d e
put_value (suc k) d e = with_value (e zero) (put_value k d (λ n. e (suc n)))

pub put_above : {D : Type 0} (k n : ℕ) (d : D) (e : ℕ → D) → k ≤ n → put_value k d e (suc n) ≡ e n
put_above zero n d e h = refl
put_above (suc k) zero d e h = absurd (omega arith)
put_above (suc k) (suc n) d e h = put_above k n d (λ m. e (suc m)) (omega arith)

pub put_below : {D : Type 0} (k n : ℕ) (d : D) (e : ℕ → D) → n < k → put_value k d e n ≡ e n
put_below zero n d e h = absurd (omega arith)
put_below (suc k) zero d e h = refl
put_below (suc k) (suc n) d e h = put_below k n d (λ m. e (suc m)) (omega arith)
