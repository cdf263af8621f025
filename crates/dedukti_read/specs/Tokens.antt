-- Which tokens there are, how each is spelled, and which one stands in front of bytes.
use Rattle.std.specs.Prelude.{◌≡◌, ◌==◌, ℕ, Bool, false, List, [], ◌∷◌, ◌++◌, codes}
use Rattle.lp_term.specs.Identifiers.{word_byte}
use Rattle.lp_term.specs.Reserved.{IsGrammarName, IsNoneOf}
use Rattle.dedukti_read.specs.declared.token.Token.{Token}
use Rattle.dedukti_read.specs.declared.token.Token.TheVariants as t

-- the words of the grammar
abbrev pub grammar_words : List (List ℕ)
grammar_words = codes "def" ∷ codes "Type" ∷ []

-- an identifier: a name of the grammar that is none of its words
pub record IsIdentifier (name : List ℕ) : Type 0 where
  pub grammar : IsGrammarName name
  pub free : IsNoneOf grammar_words name

-- which values are tokens
abbrev pub IsToken : Token → Type 0
IsToken (t.Name name) = IsIdentifier name
IsToken _ = Unit {0}

-- a token has one spelling
abbrev pub spelling : Token → List ℕ
spelling t.Def = codes "def"
spelling t.Sort = codes "Type"
spelling (t.Name name) = name
spelling t.OpenBracket = codes "("
spelling t.CloseBracket = codes ")"
spelling t.OpenSquare = codes "["
spelling t.CloseSquare = codes "]"
spelling t.Colon = codes ":"
spelling t.Comma = codes ","
spelling t.Stop = codes "."
spelling t.Defined = codes ":="
spelling t.Arrow = codes "->"
spelling t.Rewrites = codes "-->"
spelling t.Maps = codes "=>"

abbrev pub begins_with_word_byte : List ℕ → Bool
begins_with_word_byte [] = false
begins_with_word_byte (b ∷ bytes) = word_byte b

abbrev pub begins_with_equals : List ℕ → Bool
begins_with_equals [] = false
begins_with_equals (b ∷ bytes) = b == 61

-- whether a longer token begins with the token and the bytes behind it: a word goes on as long as letters, digits and `_` do, and
-- `:` with `=` is `:=`
abbrev pub goes_on : Token → List ℕ → Bool
goes_on t.Def rest = begins_with_word_byte rest
goes_on t.Sort rest = begins_with_word_byte rest
goes_on (t.Name name) rest = begins_with_word_byte rest
goes_on t.Colon rest = begins_with_equals rest
goes_on token rest = false

-- The token stands in front of the bytes, before the rest, and as the longest one.
pub record Stands (bytes : List ℕ) (token : Token) (rest : List ℕ) : Type 0 where
  pub is : IsToken token
  pub front : bytes ≡ spelling token ++ rest
  pub whole : goes_on token rest ≡ false
