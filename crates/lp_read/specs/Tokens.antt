-- Which tokens there are, how each is spelled, and which one stands in front of bytes.
use Rattle.std.specs.Prelude.{◌≡◌, ℕ, Bool, true, false, List, [], ◌∷◌, ◌++◌, codes}
use Rattle.lp_term.specs.Identifiers.{word_byte}
use Rattle.lp_term.specs.Reserved.{IsGrammarName, IsNoneOf, reserved_words}
use Rattle.lp_read.specs.declared.token.Token.{Token}
use Rattle.lp_read.specs.declared.token.Token.TheVariants as t

-- an identifier: a name of the grammar that is none of its words
pub record IsIdentifier (name : List ℕ) : Type 0 where
  pub grammar : IsGrammarName name
  pub free : IsNoneOf reserved_words name

-- which values are tokens
abbrev pub IsToken : Token → Type 0
IsToken (t.Name name) = IsIdentifier name
IsToken (t.Pattern name) = IsIdentifier name
IsToken _ = Unit {0}

-- a token has one spelling; the marks past ASCII are written in UTF-8
abbrev pub spelling : Token → List ℕ
spelling t.Constant = codes "constant"
spelling t.Symbol = codes "symbol"
spelling t.Rule = codes "rule"
spelling t.Let = codes "let"
spelling t.In = codes "in"
spelling t.Sort = codes "TYPE"
spelling (t.Name name) = name
spelling (t.Pattern name) = 36 ∷ name
spelling t.OpenBracket = 40 ∷ []
spelling t.CloseBracket = 41 ∷ []
spelling t.Colon = 58 ∷ []
spelling t.Comma = 44 ∷ []
spelling t.Semicolon = 59 ∷ []
spelling t.Lambda = 206 ∷ 187 ∷ []
spelling t.Product = 206 ∷ 160 ∷ []
spelling t.Arrow = 226 ∷ 134 ∷ 146 ∷ []
spelling t.Defined = 226 ∷ 137 ∷ 148 ∷ []
spelling t.Rewrites = 226 ∷ 134 ∷ 170 ∷ []

-- whether the token ends with a letter, a digit or `_`, so that it goes on as long as such bytes do
abbrev pub is_word : Token → Bool
is_word t.OpenBracket = false
is_word t.CloseBracket = false
is_word t.Colon = false
is_word t.Comma = false
is_word t.Semicolon = false
is_word t.Lambda = false
is_word t.Product = false
is_word t.Arrow = false
is_word t.Defined = false
is_word t.Rewrites = false
is_word token = true

abbrev pub begins_with_word_byte : List ℕ → Bool
begins_with_word_byte [] = false
begins_with_word_byte (b ∷ bytes) = word_byte b

-- The token stands in front of the bytes, before the rest, and as the longest one: a word is never cut.
pub record Stands (bytes : List ℕ) (token : Token) (rest : List ℕ) : Type 0 where
  pub is : IsToken token
  pub front : bytes ≡ spelling token ++ rest
  pub whole : is_word token ≡ true → begins_with_word_byte rest ≡ false
