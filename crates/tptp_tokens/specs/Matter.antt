-- What is skipped between tokens: white space, comments, and lines that begin with `#`.
use Rattle.std.specs.Prelude.{◌≡◌, ℕ, Bool, true, false, List, [], ◌∷◌, ◌++◌, ◌==◌, ◌&&◌, ◌||◌}
use Rattle.tptp_tokens.specs.Bytes.{is_white}

abbrev pub begins : ℕ → List ℕ → Bool
begins b [] = false
begins b (c ∷ bytes) = c == b

-- whether `*/` stands somewhere
abbrev pub closes : List ℕ → Bool
closes [] = false
closes (b ∷ bytes) = (b == 42 && begins 47 bytes) || closes bytes

-- whether a comment opens behind a `/`: a `*` stands there, and `*/` behind it
abbrev pub opens : List ℕ → Bool
opens [] = false
opens (b ∷ bytes) = b == 42 && closes bytes

-- whether the byte opens a comment to the end of its line: `%`, or `#` at the start of a line
abbrev pub opens_line : Bool → ℕ → Bool
opens_line start b = b == 37 || (start && b == 35)

-- no byte is a newline
abbrev pub IsInLine : List ℕ → Type 0
IsInLine [] = Unit {0}
IsInLine (b ∷ text) = ((b == 10) ≡ false) × IsInLine text

-- no matter begins here
abbrev pub IsFirm : Bool → List ℕ → Type 0
IsFirm start [] = Unit {0}
IsFirm start (b ∷ bytes) = (is_white b ≡ false) × (opens_line start b ≡ false) × ((b == 47 && opens bytes) ≡ false)

-- `Skips start bytes rest`: from here, at the start of a line or not, what is skipped goes up to the rest
pub data Skips : Bool → List ℕ → List ℕ → Type 0 where
  Nothing : (start : Bool) (bytes : List ℕ) → IsFirm start bytes → Skips start bytes bytes
  White : (start : Bool) (b : ℕ) (bytes rest : List ℕ) → is_white b ≡ true → Skips (b == 10) bytes rest → Skips start (b ∷ bytes) rest
  LineComment : (start : Bool) (b : ℕ) (text bytes rest : List ℕ) → is_white b ≡ false → opens_line start b ≡ true → IsInLine text → Skips true bytes rest → Skips start (b ∷ (text ++ 10 ∷ bytes)) rest
  LastComment : (start : Bool) (b : ℕ) (text : List ℕ) → is_white b ≡ false → opens_line start b ≡ true → IsInLine text → Skips start (b ∷ text) []
  -- the text has no `*/`, also not with the `*` behind it
  BlockComment : (start : Bool) (text bytes rest : List ℕ) → closes (text ++ 42 ∷ []) ≡ false → Skips false bytes rest → Skips start (47 ∷ 42 ∷ (text ++ 42 ∷ 47 ∷ bytes)) rest
