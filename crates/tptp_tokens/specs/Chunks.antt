-- The tokens up to a full stop, taken one by one. The laws in proofs/ChunkLaws say that they are those of `AreTokens`.
use Rattle.std.specs.Prelude.{ℕ, zero, suc, false, List, [], ◌∷◌, Option, Some, None, ◌==◌, if◌then◌else◌}
use Rattle.tptp_tokens.specs.declared.token.Token.{Token}
use Rattle.tptp_tokens.specs.declared.token.Token.TheVariants as t
use Rattle.tptp_tokens.specs.Scan.{token_at}
use Rattle.tptp_tokens.specs.Skipping.{Between, skip}

-- the token that was read, before more, or none where it is a full stop
unfoldable pub chunk_from : (List ℕ → List Token × List ℕ) → List ℕ → Option (Token × List ℕ) → List Token × List ℕ
chunk_from more bytes None = ([], bytes)
chunk_from more bytes (Some (t.Dot, rest)) = ([], bytes)
chunk_from more bytes (Some (token, rest)) = (token ∷ (more rest).0, (more rest).1)

-- so many tokens at most, and the bytes behind them
unfoldable pub chunk : ℕ → List ℕ → List Token × List ℕ
chunk zero bytes = ([], bytes)
chunk (suc n) bytes = chunk_from (chunk n) (skip (Between false) bytes) (token_at (skip (Between false) bytes))

-- what stands behind a full stop
abbrev pub behind_dot : List ℕ → Option (List ℕ)
behind_dot [] = None
behind_dot (b ∷ bytes) = if b == 46 then Some bytes else None
