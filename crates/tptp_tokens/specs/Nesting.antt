-- How many brackets are unclosed, and when they are too many.
use Rattle.std.specs.Prelude.{ℕ, ◌+◌, ◌-◌, ◌<◌, List, take, fold}
use Rattle.tptp_tokens.specs.declared.token.Token.{Token}
use Rattle.tptp_tokens.specs.declared.token.Token.TheVariants as t

-- How many brackets are unclosed behind a token, where so many are before it. A closing bracket, round or square, closes
-- the last unclosed one of either kind, and nothing where there is none.
abbrev pub unclosed_behind : ℕ → Token → ℕ
unclosed_behind n t.OpenRound = n + 1
unclosed_behind n t.OpenSquare = n + 1
unclosed_behind n t.CloseRound = n - 1
unclosed_behind n t.CloseSquare = n - 1
unclosed_behind n token = n

-- how many brackets of the tokens are unclosed behind the last one
abbrev pub unclosed : List Token → ℕ
unclosed tokens = fold unclosed_behind 0 tokens

-- behind some of the tokens, counted from the first, more than 1,000 brackets are unclosed
abbrev pub IsTooDeep : List Token → Type 0
IsTooDeep tokens = (count : ℕ) × (1000 < unclosed (take count tokens))
