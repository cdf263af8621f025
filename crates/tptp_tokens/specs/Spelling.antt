-- How each token is spelled, and the longest token in front of bytes.
use Rattle.std.specs.Prelude.{◌≡◌, ◌≢◌, ℕ, ◌≤◌, false, List, [], ◌∷◌, ◌++◌, length, IsTrue, Option, Some, None, ◌==◌, if◌then◌else◌}
use Rattle.tptp_tokens.specs.Bytes.{is_lower, is_upper, is_digit, is_printable, is_visible, is_escaped, EachByte, IsWord}
use Rattle.tptp_tokens.specs.Numbers.{IsNumber}
use Rattle.tptp_tokens.specs.declared.token.Token.{Token}
use Rattle.tptp_tokens.specs.declared.token.Token.TheVariants as t

-- the text between quotes and the quote behind it, with `\` before each quote and each `\`
abbrev pub quoted_text : ℕ → List ℕ → List ℕ
quoted_text quote [] = quote ∷ []
quoted_text quote (b ∷ text) = if is_escaped quote b then 92 ∷ b ∷ quoted_text quote text else b ∷ quoted_text quote text

-- a word or a number is spelled as it stands, and a token has one spelling
abbrev pub spelling : Token → List ℕ
spelling (t.Lower word) = word
spelling (t.Upper word) = word
spelling (t.Dollar word) = word
spelling (t.Quoted text) = 39 ∷ quoted_text 39 text
spelling (t.Distinct text) = 34 ∷ quoted_text 34 text
spelling (t.Number number) = number
spelling t.OpenRound = 40 ∷ []
spelling t.CloseRound = 41 ∷ []
spelling t.OpenSquare = 91 ∷ []
spelling t.CloseSquare = 93 ∷ []
spelling t.Comma = 44 ∷ []
spelling t.Dot = 46 ∷ []
spelling t.Colon = 58 ∷ []
spelling t.Not = 126 ∷ []
spelling t.And = 38 ∷ []
spelling t.Or = 124 ∷ []
spelling t.Implies = 61 ∷ 62 ∷ []
spelling t.ImpliedBy = 60 ∷ 61 ∷ []
spelling t.Iff = 60 ∷ 61 ∷ 62 ∷ []
spelling t.Differs = 60 ∷ 126 ∷ 62 ∷ []
spelling t.Nor = 126 ∷ 124 ∷ []
spelling t.Nand = 126 ∷ 38 ∷ []
spelling t.ForAll = 33 ∷ []
spelling t.Exists = 63 ∷ []
spelling t.Equal = 61 ∷ []
spelling t.Unequal = 33 ∷ 61 ∷ []
spelling (t.Other b) = b ∷ []

-- the mark that one byte is
abbrev pub mark_of : ℕ → Option Token
mark_of b = if b == 40 then Some t.OpenRound else (if b == 41 then Some t.CloseRound else (if b == 91 then Some t.OpenSquare else (if b == 93 then Some t.CloseSquare else (if b == 44 then Some t.Comma else (if b == 46 then Some t.Dot else (if b == 58 then Some t.Colon else (if b == 126 then Some t.Not else (if b == 38 then Some t.And else (if b == 124 then Some t.Or else (if b == 33 then Some t.ForAll else (if b == 63 then Some t.Exists else (if b == 61 then Some t.Equal else None))))))))))))

-- `$` or `$$` and a lower word
pub data IsDollar : List ℕ → Type 0 where
  OneSign : (word : List ℕ) → IsWord is_lower word → IsDollar (36 ∷ word)
  TwoSigns : (word : List ℕ) → IsWord is_lower word → IsDollar (36 ∷ 36 ∷ word)

-- a name in quotes has one byte or more
abbrev pub IsQuoted : List ℕ → Type 0
IsQuoted [] = ⊥
IsQuoted (b ∷ text) = EachByte is_printable (b ∷ text)

-- a visible byte that is no letter, no digit and no mark
abbrev pub IsOther : ℕ → Type 0
IsOther b = IsTrue (is_visible b) × (is_lower b ≡ false) × (is_upper b ≡ false) × (is_digit b ≡ false) × (mark_of b ≡ None)

-- which values are tokens
abbrev pub IsToken : Token → Type 0
IsToken (t.Lower word) = IsWord is_lower word
IsToken (t.Upper word) = IsWord is_upper word
IsToken (t.Dollar word) = IsDollar word
IsToken (t.Quoted text) = IsQuoted text
IsToken (t.Distinct text) = EachByte is_printable text
IsToken (t.Number number) = IsNumber number
IsToken (t.Other b) = IsOther b
IsToken _ = Unit {0}

-- the token stands in front of the bytes, before the rest, and no longer one does
pub record Longest (bytes : List ℕ) (token : Token) (rest : List ℕ) : Type 0 where
  pub is : IsToken token
  pub front : bytes ≡ spelling token ++ rest
  pub longest : (u : Token) (others : List ℕ) → IsToken u → bytes ≡ spelling u ++ others → length (spelling u) ≤ length (spelling token)

-- no token stands in front of the bytes
abbrev pub IsTokenless : List ℕ → Type 0
IsTokenless bytes = (token : Token) (rest : List ℕ) → IsToken token → bytes ≢ spelling token ++ rest
