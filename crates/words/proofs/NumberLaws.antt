-- Numbers, as std's parse reads them.
use Rattle.std.proofs.Common.{◌≡◌, ◌∙◌, ◌==◌, ◌&&◌, ◌<◌, ◌≤◌, ◌^◌, ℕ, Bool, cond, true, false, refl, sym, ap, subst, arith, [], ◌∷◌, length, drop, nat_lt, nat_le, Some, None, Err, true≢false}
use Rattle.std.specs.List.{list_all}
use Rattle.std.specs.Char.{digit_value, is_ascii_digit}
use Rattle.std.specs.Str.Parse.{AllDigits, IsNumeral, ParsesUnsigned, digits_value, without_leading_plus}
use Rattle.std.proofs.lemmas.Bool.Decides.{nat_tests}
use Rattle.clap.proofs.WalkLemmas.{both}
use Rattle.words.specs.Commands.{Text}
use Rattle.words.specs.Reading.{is_number, number_to}

digit_range : (x : ℕ) → is_ascii_digit x ≡ true → (48 ≤ x) × (x ≤ 57)
digit_range x h = let parts = both (nat_le 48 x) (nat_le x 57) h in (grind (arith, nat_tests, parts.0), grind (arith, nat_tests, parts.1))

digit_below : (x : ℕ) → is_ascii_digit x ≡ true → digit_value x < 10
digit_below x h =
    let range = digit_range x h in
    let low : nat_lt x 48 ≡ false = grind (arith, nat_tests, range.0) in
    let high : nat_lt x 58 ≡ true = grind (arith, nat_tests, range.1) in
    rw (low, high) (omega (arith, range.0, range.1))

no_plus : (x : ℕ) → is_ascii_digit x ≡ true → (x == 43) ≡ false
no_plus x h = let low = (digit_range x h).0 in grind (arith, nat_tests, low)

all_digits : (text : Text) → list_all is_ascii_digit text ≡ true → AllDigits 10 text
all_digits [] h = tt
all_digits (x ∷ xs) h = let parts = both (is_ascii_digit x) (list_all is_ascii_digit xs) h in (digit_below x parts.0, all_digits xs parts.1)

-- A number is a numeral without a sign.
numeral : (text : Text) → is_number text ≡ true → (without_leading_plus text ≡ text) × IsNumeral 10 text
numeral [] h = absurd (true≢false (sym h))
numeral (x ∷ xs) h =
    let digits : list_all is_ascii_digit (x ∷ xs) ≡ true =
    (both (nat_lt 0 (length (x ∷ xs)) && nat_le (length (x ∷ xs)) 8) (list_all is_ascii_digit (x ∷ xs)) h).1 in
    let first : is_ascii_digit x ≡ true = (both (is_ascii_digit x) (list_all is_ascii_digit xs) digits).0 in
    (ap (λ b. drop (cond b 1 0) (x ∷ xs)) (no_plus x first), (omega arith, all_digits (x ∷ xs) digits))

pub number_err : {E : Type 0} (most : ℕ) (text : Text) (e : E) → most < 2 ^ 32 → is_number text ≡ true → ParsesUnsigned {E = E} 32 10 text (Err e)
    → None ≡ number_to most text
number_err most text e small is refused =
    sym (ap (λ b. cond (b && (nat_le 1 (digits_value 10 text) && nat_le (digits_value 10 text) most)) (Some (digits_value 10 text)) None) is
    ∙ go (nat_le 1 (digits_value 10 text) && nat_le (digits_value 10 text) most) refl)
  where
    go : (b : Bool) → (nat_le 1 (digits_value 10 text) && nat_le (digits_value 10 text) most) ≡ b → cond b (Some (digits_value 10 text)) None ≡ None
    go false h = refl
    go true h =
        let parts = both (nat_le 1 (digits_value 10 text)) (nat_le (digits_value 10 text) most) h in
        let below : digits_value 10 text ≤ most = grind (arith, nat_tests, parts.1) in
        let facts = numeral text is in
        let bound : digits_value 10 (without_leading_plus text) < 2 ^ 32 = subst (λ t. digits_value 10 t < 2 ^ 32) (sym facts.0) (omega (arith, below, small)) in
        absurd (refused (subst (IsNumeral 10) (sym facts.0) facts.1, bound))
