-- Numbers in lists, and tests of numbers.
use Rattle.std.proofs.Common.{◌≡◌, ◌-◌, ℕ, suc, nat_eq, Bool, true, false, not, List, [], ◌∷◌, map, refl, ap, eq-eqb, inl, inr, arith}
use Rattle.std.specs.Prelude.{nat_le, nat_lt}
use Rattle.std.proofs.Math.Dec.{leb-suc-suc}
use Rattle.std.proofs.lemmas.Bool.{eqb-true, or_cases, or_left, or_right}
use Rattle.std.proofs.lemmas.Bool.Decides.{nat_tests}
use Rattle.normal_form.specs.ClauseLists.{has_number}

-- different numbers
pub apart : (k n : ℕ) → (k ≡ n → ⊥) → nat_eq k n ≡ false
apart k n h = by_test (nat_eq k n) (eqb-true k n)
  where
    by_test : (t : Bool) → (t ≡ true → k ≡ n) → t ≡ false
    by_test true w = absurd (h (w refl))
    by_test false w = refl

-- a number's place in a list that goes with it
pub has_map : (h : ℕ → ℕ) (l : List ℕ) (n : ℕ) → has_number l n ≡ true → has_number (map h l) (h n) ≡ true
has_map h [] n w = cc
has_map h (m ∷ l) n w = elim (or_cases (nat_eq m n) (has_number l n) w) [
  | inl e ↦ or_left (nat_eq (h m) (h n)) (has_number (map h l) (h n)) (eq-eqb (h m) (h n) (ap h (eqb-true m n e)))
  | inr v ↦ or_right (nat_eq (h m) (h n)) (has_number (map h l) (h n)) (has_map h l n v)
]

pub not_both : (b : Bool) → not b ≡ true → b ≡ true → ⊥
not_both b h k = cc

pub not_by : (b : Bool) → (b ≡ true → ⊥) → not b ≡ true
not_by true h = absurd (h refl)
not_by false h = refl

-- ---- tests and differences of one more

pub le_up : (m n : ℕ) → nat_le (suc m) (suc n) ≡ nat_le m n
le_up m n = leb-suc-suc m n

pub lt_up : (m n : ℕ) → nat_lt (suc m) (suc n) ≡ nat_lt m n
lt_up m n = leb-suc-suc (suc m) n

pub zero_le : (n : ℕ) → nat_le 0 n ≡ true
zero_le n = grind (arith, nat_tests)

pub zero_lt : (n : ℕ) → nat_lt 0 (suc n) ≡ true
zero_lt n = grind (arith, nat_tests)

pub not_first : (n : ℕ) → nat_lt (suc n) 1 ≡ false
not_first n = grind (arith, nat_tests)

pub less_up : (m n : ℕ) → suc m - suc n ≡ m - n
less_up m n = omega arith

pub less_zero : (n : ℕ) → n - 0 ≡ n
less_zero n = omega arith

pub one_less : (n : ℕ) → suc n - 1 ≡ n
one_less n = omega arith
