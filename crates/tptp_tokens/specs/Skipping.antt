-- Matter skipped byte by byte, and where the last comment ends. The laws in proofs/SkippedMatter say that this is what `Skips` skips.
use Rattle.std.specs.Prelude.{◌≡◌, ℕ, suc, Bool, true, false, List, [], ◌∷◌, length, nat_le, ◌==◌, ◌&&◌, if◌then◌else◌}
use Rattle.tptp_tokens.specs.Bytes.{is_white}
use Rattle.tptp_tokens.specs.Matter.{begins, opens, opens_line}

-- where a byte stands: between tokens, at the start of a line or not; in the rest of a line; on the `*` of `/*`; in a comment; on the `/` of `*/`
pub data Place : Type 0 where
  Between : Bool → Place
  InLine : Place
  OnStar : Place
  InBlock : Place
  OnSlash : Place

-- the bytes from the next token on, or none
unfoldable pub skip : Place → List ℕ → List ℕ
skip place [] = []
skip (Between start) (b ∷ bytes) = if is_white b then skip (Between (b == 10)) bytes else (if opens_line start b then skip InLine bytes else (if b == 47 && opens bytes then skip OnStar bytes else b ∷ bytes))
skip InLine (b ∷ bytes) = if b == 10 then skip (Between true) bytes else skip InLine bytes
skip OnStar (b ∷ bytes) = skip InBlock bytes
skip InBlock (b ∷ bytes) = if b == 42 && begins 47 bytes then skip OnSlash bytes else skip InBlock bytes
skip OnSlash (b ∷ bytes) = skip (Between false) bytes

-- how long the tail is that begins at the last `*/`, or 0 where there is none
abbrev pub last_closing : List ℕ → ℕ
last_closing [] = 0
last_closing (b ∷ bytes) = if last_closing bytes == 0 && (b == 42 && begins 47 bytes) then suc (length bytes) else last_closing bytes

-- The tail that begins at the last `*/` of a whole text is that long: it is that of these bytes, too, or begins before them.
unfoldable pub KnowsClosing : ℕ → List ℕ → Type 0
KnowsClosing closing bytes = last_closing bytes ≡ (if nat_le closing (length bytes) then closing else 0)

-- the first list is what is left of the second behind some bytes
pub data IsTail : List ℕ → List ℕ → Type 0 where
  Whole : (bytes : List ℕ) → IsTail bytes bytes
  Behind : (rest : List ℕ) (b : ℕ) (bytes : List ℕ) → IsTail rest bytes → IsTail rest (b ∷ bytes)
