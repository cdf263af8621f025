-- What is skipped between tokens: white space, and comments from `(;` to the next `;)`.
use Rattle.std.specs.Prelude.{◌≡◌, ℕ, Bool, true, false, List, [], ◌∷◌, ◌++◌, ◌==◌, ◌&&◌, ◌||◌}

-- space, tab, newline, carriage return
abbrev pub is_white : ℕ → Bool
is_white b = b == 32 || b == 9 || b == 10 || b == 13

abbrev pub begins_with : ℕ → List ℕ → Bool
begins_with byte [] = false
begins_with byte (b ∷ bytes) = b == byte

-- a comment ends directly behind the byte
abbrev pub is_end : ℕ → List ℕ → Bool
is_end b bytes = b == 59 && begins_with 41 bytes

-- no end of a comment stands in the text
abbrev pub IsInside : List ℕ → Type 0
IsInside [] = Unit {0}
IsInside (b ∷ text) = (is_end b text ≡ false) × IsInside text

-- some end of a comment does
abbrev pub has_end : List ℕ → Bool
has_end [] = false
has_end (b ∷ bytes) = is_end b bytes || has_end bytes

-- a comment that ends begins with a bracket before the bytes
abbrev pub is_comment : List ℕ → Bool
is_comment [] = false
is_comment (b ∷ bytes) = b == 59 && has_end bytes

-- neither white space nor a comment begins here
abbrev pub IsFirm : List ℕ → Type 0
IsFirm [] = Unit {0}
IsFirm (b ∷ bytes) = (is_white b ≡ false) × ((b == 40 && is_comment bytes) ≡ false)

-- `Skips bytes rest`: what is skipped in front of the bytes goes up to the rest
pub data Skips : List ℕ → List ℕ → Type 0 where
  Nothing : (bytes : List ℕ) → IsFirm bytes → Skips bytes bytes
  White : (b : ℕ) (bytes rest : List ℕ) → is_white b ≡ true → Skips bytes rest → Skips (b ∷ bytes) rest
  Comment : (text bytes rest : List ℕ) → IsInside text → Skips bytes rest → Skips (40 ∷ 59 ∷ (text ++ 59 ∷ 41 ∷ bytes)) rest
