-- What a number is: a sign or none, digits, then a denominator, a fraction and an exponent, an exponent, or nothing.
use Rattle.std.specs.Prelude.{ℕ, List, [], ◌∷◌, ◌++◌, IsTrue}
use Rattle.tptp_tokens.specs.Bytes.{is_sign, is_exponent_mark, IsDigits}

-- no sign, or one
abbrev pub IsSign : List ℕ → Type 0
IsSign [] = Unit {0}
IsSign (b ∷ []) = IsTrue (is_sign b)
IsSign _ = ⊥

-- nothing, or `e` or `E`, a sign or none, and digits
pub data IsExponent : List ℕ → Type 0 where
  NoExponent : IsExponent []
  Exponent : (mark : ℕ) (sign digits : List ℕ) → IsTrue (is_exponent_mark mark) → IsSign sign → IsDigits digits → IsExponent (mark ∷ (sign ++ digits))

-- what stands behind the first digits
pub data IsNumberTail : List ℕ → Type 0 where
  Denominator : (digits : List ℕ) → IsDigits digits → IsNumberTail (47 ∷ digits)
  Fraction : (digits exponent : List ℕ) → IsDigits digits → IsExponent exponent → IsNumberTail (46 ∷ (digits ++ exponent))
  Whole : (exponent : List ℕ) → IsExponent exponent → IsNumberTail exponent

pub data IsNumber : List ℕ → Type 0 where
  Digits : (sign digits tail : List ℕ) → IsSign sign → IsDigits digits → IsNumberTail tail → IsNumber (sign ++ (digits ++ tail))
