-- Which tokens bytes are, up to a full stop.
use Rattle.std.specs.Prelude.{◌≡◌, ◌≢◌, ℕ, false, List, [], ◌∷◌}
use Rattle.tptp_tokens.specs.declared.token.Token.{Token}
use Rattle.tptp_tokens.specs.declared.token.Token.TheVariants.{Dot}
use Rattle.tptp_tokens.specs.Spelling.{Longest}
use Rattle.tptp_tokens.specs.Matter.{Skips}

-- a full stop begins here, or no token
abbrev pub Stops : List ℕ → Type 0
Stops here = (token : Token) (rest : List ℕ) → Longest here token rest → token ≡ Dot

-- `AreTokens bytes tokens stop`: the bytes are these tokens, with matter before each, up to the first full stop,
-- the first byte that begins no token, or the end
pub data AreTokens : List ℕ → List Token → List ℕ → Type 0 where
  NoToken : (bytes here : List ℕ) → Skips false bytes here → Stops here → AreTokens bytes [] here
  MoreTokens : (bytes here : List ℕ) (token : Token) (rest : List ℕ) (tokens : List Token) (stop : List ℕ) → Skips false bytes here → Longest here token rest → token ≢ Dot → AreTokens rest tokens stop → AreTokens bytes (token ∷ tokens) stop
