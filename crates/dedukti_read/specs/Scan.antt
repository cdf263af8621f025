-- Matter and tokens read from left to right. Only private contracts cite this: the laws in proofs/ say that matter is what
-- `Skips` skips, and that the token is the one that `Stands` in front.
use Rattle.std.specs.Prelude.{ℕ, Bool, true, false, List, [], ◌∷◌, Option, Some, None, nat_eq, codes, ◌==◌, ◌&&◌, if◌then◌else◌}
use Rattle.std.specs.Cmp.Lexicographic.{pointwise}
use Rattle.lp_term.specs.Identifiers.{word_byte}
use Rattle.lp_term.specs.Reserved.{begins_with_digit}
use Rattle.dedukti_read.specs.Matter.{is_comment, is_end, is_white}
use Rattle.dedukti_read.specs.declared.token.Token.{Token}
use Rattle.dedukti_read.specs.declared.token.Token.TheVariants as t

-- Where a byte stands: between tokens, behind the bracket that begins a comment, in the comment, or behind the `;` that ends it.
pub data Within : Type 0 where
  Outside : Within
  Opened : Within
  Inside : Within
  Closing : Within

-- the bytes from the next token on, or none
unfoldable pub skip_from : Within → List ℕ → List ℕ
skip_from within [] = []
skip_from Outside (b ∷ bytes) = if is_white b then skip_from Outside bytes else (if b == 40 && is_comment bytes then skip_from Opened bytes else b ∷ bytes)
skip_from Opened (b ∷ bytes) = skip_from Inside bytes
skip_from Inside (b ∷ bytes) = if is_end b bytes then skip_from Closing bytes else skip_from Inside bytes
skip_from Closing (b ∷ bytes) = skip_from Outside bytes

abbrev pub skip : List ℕ → List ℕ
skip bytes = skip_from Outside bytes

-- the letters, digits and `_` in front
abbrev pub word_in : List ℕ → List ℕ
word_in [] = []
word_in (b ∷ bytes) = if word_byte b then b ∷ word_in bytes else []

-- what stands behind them
abbrev pub behind_word : List ℕ → List ℕ
behind_word [] = []
behind_word (b ∷ bytes) = if word_byte b then behind_word bytes else b ∷ bytes

abbrev pub is_one : List ℕ → List ℕ → Bool
is_one word other = pointwise nat_eq word other

-- the word of the grammar that a word is
abbrev pub reserved_at : List ℕ → Option Token
reserved_at word = if is_one word (codes "def") then Some t.Def else (if is_one word (codes "Type") then Some t.Sort else None)

-- whether a word is none that begins no name: empty, beginning with a digit, or `_` alone
abbrev pub is_name : List ℕ → Bool
is_name [] = false
is_name (b ∷ bytes) = if begins_with_digit (b ∷ bytes) then false else (if is_one (b ∷ bytes) (codes "_") then false else true)

abbrev pub word_or : Option Token → List ℕ → Option Token
word_or (Some token) word = Some token
word_or None word = if is_name word then Some (t.Name word) else None

-- the token that a word is
abbrev pub word_at : List ℕ → Option Token
word_at word = word_or (reserved_at word) word

abbrev pub before_rest : List ℕ → Option Token → Option (Token × List ℕ)
before_rest rest None = None
before_rest rest (Some token) = Some (token, rest)

-- the mark that one byte is, and that no longer one begins with
abbrev pub mark_of : ℕ → Option Token
mark_of b = if b == 40 then Some t.OpenBracket else (if b == 41 then Some t.CloseBracket else (if b == 91 then Some t.OpenSquare else (if b == 93 then Some t.CloseSquare else (if b == 44 then Some t.Comma else (if b == 46 then Some t.Stop else None)))))

-- behind a colon
abbrev pub colon_at : List ℕ → Option (Token × List ℕ)
colon_at [] = Some (t.Colon, [])
colon_at (b ∷ bytes) = if b == 61 then Some (t.Defined, bytes) else Some (t.Colon, b ∷ bytes)

-- behind a dash
abbrev pub dash_at : List ℕ → Option (Token × List ℕ)
dash_at [] = None
dash_at (b ∷ []) = if b == 62 then Some (t.Arrow, []) else None
dash_at (b ∷ c ∷ bytes) = if b == 62 then Some (t.Arrow, c ∷ bytes) else (if b == 45 && c == 62 then Some (t.Rewrites, bytes) else None)

-- behind an equals sign
abbrev pub equals_at : List ℕ → Option (Token × List ℕ)
equals_at [] = None
equals_at (b ∷ bytes) = if b == 62 then Some (t.Maps, bytes) else None

-- a mark whose first byte stands before the bytes
abbrev pub mark_at : ℕ → List ℕ → Option (Token × List ℕ)
mark_at b bytes = if b == 58 then colon_at bytes else (if b == 45 then dash_at bytes else (if b == 61 then equals_at bytes else before_rest bytes (mark_of b)))

-- the token in front, and the bytes behind it
unfoldable pub token_at : List ℕ → Option (Token × List ℕ)
token_at [] = None
token_at (b ∷ bytes) = if word_byte b then before_rest (behind_word (b ∷ bytes)) (word_at (word_in (b ∷ bytes))) else mark_at b bytes

-- what code hands out, without where it lies
abbrev pub seen : {A B : Type 0} → (A → B) → Option A → Option B
seen f None = None
seen f (Some x) = Some (f x)
