-- Matter and tokens read from left to right. Only private contracts cite this: the laws in proofs/ say that matter is what
-- `Skips` skips, and that the token is the one that `Stands` in front.
use Rattle.std.specs.Prelude.{ℕ, Bool, true, false, List, [], ◌∷◌, Option, Some, None, nat_eq, codes, ◌==◌, ◌&&◌, ◌||◌, if◌then◌else◌, option_map}
use Rattle.std.specs.Cmp.Lexicographic.{pointwise}
use Rattle.lp_term.specs.Identifiers.{word_byte}
use Rattle.lp_term.specs.Reserved.{begins_with_digit}
use Rattle.lp_read.specs.Matter.{is_white, begins_with_slash}
use Rattle.lp_read.specs.declared.token.Token.{Token}
use Rattle.lp_read.specs.declared.token.Token.TheVariants as t

-- the bytes from the next token on, or none; the flag says that a comment isn't over
unfoldable pub skip : Bool → List ℕ → List ℕ
skip inside [] = []
skip true (b ∷ bytes) = if b == 10 then skip false bytes else skip true bytes
skip false (b ∷ bytes) = if is_white b then skip false bytes else (if b == 47 && begins_with_slash bytes then skip true bytes else b ∷ bytes)

-- the letters, digits and `_` in front
abbrev pub word_in : List ℕ → List ℕ
word_in [] = []
word_in (b ∷ bytes) = if word_byte b then b ∷ word_in bytes else []

-- what stands behind them
abbrev pub behind_word : List ℕ → List ℕ
behind_word [] = []
behind_word (b ∷ bytes) = if word_byte b then behind_word bytes else b ∷ bytes

abbrev pub is_one : List ℕ → List ℕ → Bool
is_one word other = pointwise nat_eq word other

-- the word of the grammar that a word is
abbrev pub reserved_at : List ℕ → Option Token
reserved_at word = if is_one word (codes "constant") then Some t.Constant else (if is_one word (codes "symbol") then Some t.Symbol else (if is_one word (codes "rule") then Some t.Rule else (if is_one word (codes "let") then Some t.Let else (if is_one word (codes "in") then Some t.In else (if is_one word (codes "TYPE") then Some t.Sort else None)))))

-- whether a word is none that begins no name: empty, beginning with a digit, or `_` alone
abbrev pub is_name : List ℕ → Bool
is_name [] = false
is_name (b ∷ bytes) = if begins_with_digit (b ∷ bytes) then false else (if is_one (b ∷ bytes) (codes "_") then false else true)

abbrev pub word_or : Option Token → List ℕ → Option Token
word_or (Some token) word = Some token
word_or None word = if is_name word then Some (t.Name word) else None

-- the token that a word is
abbrev pub word_at : List ℕ → Option Token
word_at word = word_or (reserved_at word) word

abbrev pub pattern_or : Option Token → List ℕ → Option Token
pattern_or (Some token) word = None
pattern_or None word = if is_name word then Some (t.Pattern word) else None

-- the token that a word behind a `$` is
abbrev pub pattern_at : List ℕ → Option Token
pattern_at word = pattern_or (reserved_at word) word

abbrev pub before_rest : List ℕ → Option Token → Option (Token × List ℕ)
before_rest rest None = None
before_rest rest (Some token) = Some (token, rest)

-- the mark that one byte is
abbrev pub mark_of : ℕ → Option Token
mark_of b = if b == 40 then Some t.OpenBracket else (if b == 41 then Some t.CloseBracket else (if b == 58 then Some t.Colon else (if b == 44 then Some t.Comma else (if b == 59 then Some t.Semicolon else None))))

-- behind the first byte of `λ` and `Π`
abbrev pub letter_at : List ℕ → Option (Token × List ℕ)
letter_at [] = None
letter_at (b ∷ bytes) = if b == 187 then Some (t.Lambda, bytes) else (if b == 160 then Some (t.Product, bytes) else None)

-- behind the first byte of `→`, `≔` and `↪`
abbrev pub arrow_at : List ℕ → Option (Token × List ℕ)
arrow_at [] = None
arrow_at (b ∷ []) = None
arrow_at (b ∷ c ∷ bytes) = if b == 134 && c == 146 then Some (t.Arrow, bytes) else (if b == 137 && c == 148 then Some (t.Defined, bytes) else (if b == 134 && c == 170 then Some (t.Rewrites, bytes) else None))

-- a mark whose first byte stands before the bytes
abbrev pub mark_at : ℕ → List ℕ → Option (Token × List ℕ)
mark_at b bytes = if b == 206 then letter_at bytes else (if b == 226 then arrow_at bytes else before_rest bytes (mark_of b))

-- the token in front, and the bytes behind it
unfoldable pub token_at : List ℕ → Option (Token × List ℕ)
token_at [] = None
token_at (b ∷ bytes) = if word_byte b then before_rest (behind_word (b ∷ bytes)) (word_at (word_in (b ∷ bytes))) else (if b == 36 then before_rest (behind_word bytes) (pattern_at (word_in bytes)) else mark_at b bytes)

-- what code hands out, without where it lies
abbrev pub seen : {A B : Type 0} → (A → B) → Option A → Option B
seen f None = None
seen f (Some x) = Some (f x)
