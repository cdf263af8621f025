-- What is skipped between tokens: white space, and comments from `//` to the end of the line.
use Rattle.std.specs.Prelude.{◌≡◌, ℕ, Bool, true, false, List, [], ◌∷◌, ◌++◌, ◌==◌, ◌&&◌, ◌||◌}

-- space, tab, newline, carriage return
abbrev pub is_white : ℕ → Bool
is_white b = b == 32 || b == 9 || b == 10 || b == 13

abbrev pub begins_with_slash : List ℕ → Bool
begins_with_slash [] = false
begins_with_slash (b ∷ bytes) = b == 47

-- no byte is a newline
abbrev pub IsInLine : List ℕ → Type 0
IsInLine [] = Unit {0}
IsInLine (b ∷ text) = ((b == 10) ≡ false) × IsInLine text

-- neither white space nor a comment begins here
abbrev pub IsFirm : List ℕ → Type 0
IsFirm [] = Unit {0}
IsFirm (b ∷ bytes) = (is_white b ≡ false) × ((b == 47 && begins_with_slash bytes) ≡ false)

-- `Skips bytes rest`: what is skipped in front of the bytes goes up to the rest
pub data Skips : List ℕ → List ℕ → Type 0 where
  Nothing : (bytes : List ℕ) → IsFirm bytes → Skips bytes bytes
  White : (b : ℕ) (bytes rest : List ℕ) → is_white b ≡ true → Skips bytes rest → Skips (b ∷ bytes) rest
  Comment : (text bytes rest : List ℕ) → IsInLine text → Skips bytes rest → Skips (47 ∷ 47 ∷ (text ++ 10 ∷ bytes)) rest
  LastComment : (text : List ℕ) → IsInLine text → Skips (47 ∷ 47 ∷ text) []
