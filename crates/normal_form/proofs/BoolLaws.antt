-- Laws of truth values, by cases.
use Rattle.std.proofs.Common.{◌≡◌, ◌⊎◌, inl, inr, Bool, true, false, not, ◌&&◌, ◌||◌, ap, refl}
use Rattle.normal_form.specs.Truth.{signed}

pub test_cases : (b : Bool) → (b ≡ true) ⊎ (b ≡ false)
test_cases true = inl refl
test_cases false = inr refl

pub left_false : (a b : Bool) → a || b ≡ false → a ≡ false
left_false true b e = absurd (cc)
left_false false b e = refl

pub right_false : (a b : Bool) → a || b ≡ false → b ≡ false
right_false true b e = absurd (cc)
right_false false b e = e

pub not_and : (a b : Bool) → not (a && b) ≡ not a || not b
not_and true b = refl
not_and false b = refl

pub not_or : (a b : Bool) → not (a || b) ≡ not a && not b
not_or true b = refl
not_or false b = refl

pub not_imp : (a b : Bool) → not (not a || b) ≡ a && not b
not_imp true true = refl
not_imp true false = refl
not_imp false true = refl
not_imp false false = refl

pub not_iff : (a b : Bool) → not ((not a || b) && (not b || a)) ≡ (a || b) && (not a || not b)
not_iff true true = refl
not_iff true false = refl
not_iff false true = refl
not_iff false false = refl

pub signed_not : (sign b : Bool) → signed (not sign) b ≡ signed sign (not b)
signed_not true b = refl
signed_not false true = refl
signed_not false false = refl

pub or_twice : (a b : Bool) → (a || b) || (b || a) ≡ a || b
or_twice true b = refl
or_twice false true = refl
or_twice false false = refl

pub or_again : (a b : Bool) → (a || b) || (a || b) ≡ a || b
or_again true b = refl
or_again false true = refl
or_again false false = refl

pub or_and : (c a b : Bool) → (c || a) && (c || b) ≡ c || (a && b)
or_and true a b = refl
or_and false a b = refl

pub or_true : (c : Bool) → true ≡ c || true
or_true true = refl
or_true false = refl

pub and_or : (c a b : Bool) → (c || b) && (a || b) ≡ (c && a) || b
and_or true a b = refl
and_or false true true = refl
and_or false true false = refl
and_or false false true = refl
and_or false false false = refl

pub or_left_step : (a b c : Bool) → a || (b || c) ≡ (a || b) || c
or_left_step true b c = refl
or_left_step false b c = refl

pub and_step : (a b c : Bool) → a && (b && c) ≡ (a && b) && c
and_step true b c = refl
and_step false b c = refl

pub and_left : (a b : Bool) → a && b ≡ true → a ≡ true
and_left true b e = refl
and_left false b e = absurd (cc)

pub and_right : (a b : Bool) → a && b ≡ true → b ≡ true
and_right true b e = e
and_right false b e = absurd (cc)

pub and_both : (a b : Bool) → a ≡ true → b ≡ true → a && b ≡ true
and_both true b p q = q
and_both false b p q = absurd (cc)

pub or_map : (a b x y : Bool) → (a ≡ true → x ≡ true) → (b ≡ true → y ≡ true) → a || b ≡ true → x || y ≡ true
or_map true b x y f g e = ap (λ z. z || y) (f refl)
or_map false b true y f g e = refl
or_map false b false y f g e = g e

pub or_of_left : (a b : Bool) → a ≡ true → a || b ≡ true
or_of_left true b e = refl
or_of_left false b e = absurd (cc)

pub or_of_right : (a b : Bool) → b ≡ true → a || b ≡ true
or_of_right true b e = refl
or_of_right false b e = e

pub or_only_left : (a b : Bool) → a || b ≡ true → b ≡ false → a ≡ true
or_only_left true b e f = refl
or_only_left false b e f = absurd (cc)

pub or_false : (a : Bool) → a || false ≡ a
or_false true = refl
or_false false = refl
