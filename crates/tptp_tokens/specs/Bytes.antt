-- Kinds of bytes.
use Rattle.std.specs.Prelude.{ℕ, Bool, List, [], ◌∷◌, IsTrue, nat_le, ◌==◌, ◌&&◌, ◌||◌}

-- `a` to `z`
abbrev pub is_lower : ℕ → Bool
is_lower b = nat_le 97 b && nat_le b 122

-- `A` to `Z`
abbrev pub is_upper : ℕ → Bool
is_upper b = nat_le 65 b && nat_le b 90

abbrev pub is_digit : ℕ → Bool
is_digit b = nat_le 48 b && nat_le b 57

-- what a word goes on with: a letter, a digit or `_`
abbrev pub is_word : ℕ → Bool
is_word b = is_lower b || is_upper b || is_digit b || b == 95

-- `+` or `-`
abbrev pub is_sign : ℕ → Bool
is_sign b = b == 43 || b == 45

-- `e` or `E`
abbrev pub is_exponent_mark : ℕ → Bool
is_exponent_mark b = b == 101 || b == 69

-- what may stand between quotes
abbrev pub is_printable : ℕ → Bool
is_printable b = nat_le 32 b && nat_le b 126

-- what may begin a token
abbrev pub is_visible : ℕ → Bool
is_visible b = nat_le 33 b && nat_le b 126

-- what stands behind a `\` between these quotes: the quote, or `\`
abbrev pub is_escaped : ℕ → ℕ → Bool
is_escaped quote b = b == quote || b == 92

-- space, tab, newline, carriage return
abbrev pub is_white : ℕ → Bool
is_white b = b == 32 || b == 9 || b == 10 || b == 13

abbrev pub EachByte : (ℕ → Bool) → List ℕ → Type 0
EachByte p [] = Unit {0}
EachByte p (b ∷ bytes) = IsTrue (p b) × EachByte p bytes

-- a first byte that passes, then letters, digits and `_`
abbrev pub IsWord : (ℕ → Bool) → List ℕ → Type 0
IsWord p [] = ⊥
IsWord p (b ∷ bytes) = IsTrue (p b) × EachByte is_word bytes

-- one digit or more
abbrev pub IsDigits : List ℕ → Type 0
IsDigits [] = ⊥
IsDigits (b ∷ bytes) = IsTrue (is_digit b) × EachByte is_digit bytes
