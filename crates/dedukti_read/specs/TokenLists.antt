-- Which tokens bytes begin with.
use Rattle.std.specs.Prelude.{ℕ, List, [], ◌∷◌}
use Rattle.dedukti_read.specs.declared.token.Token.{Token}
use Rattle.dedukti_read.specs.Matter.{Skips}
use Rattle.dedukti_read.specs.Tokens.{Stands}

-- `AreTokens bytes tokens rest`: the bytes begin with these tokens, with matter before each, and the rest stands directly
-- behind the last one
pub data AreTokens : List ℕ → List Token → List ℕ → Type 0 where
  NoToken : (bytes : List ℕ) → AreTokens bytes [] bytes
  MoreTokens : (bytes here : List ℕ) (token : Token) (after : List ℕ) (tokens : List Token) (rest : List ℕ)
      → Skips bytes here → Stands here token after → AreTokens after tokens rest → AreTokens bytes (token ∷ tokens) rest
