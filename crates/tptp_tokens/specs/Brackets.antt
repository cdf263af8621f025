-- Unclosed brackets counted token by token, as the code does. The laws in proofs/BracketLaws say that this finds what `IsTooDeep` says.
use Rattle.std.specs.Prelude.{ℕ, ◌+◌, ◌-◌, Bool, true, false, List, [], ◌∷◌, ◌==◌, if◌then◌else◌}
use Rattle.tptp_tokens.specs.declared.token.Token.{Token}
use Rattle.tptp_tokens.specs.declared.token.Token.TheVariants as t

-- whether more than 1,000 brackets are unclosed at once, where so many are unclosed before
unfoldable pub too_deep : ℕ → List Token → Bool
too_deep unclosed [] = false
too_deep unclosed (t.OpenRound ∷ tokens) = if unclosed == 1000 then true else too_deep (unclosed + 1) tokens
too_deep unclosed (t.OpenSquare ∷ tokens) = if unclosed == 1000 then true else too_deep (unclosed + 1) tokens
too_deep unclosed (t.CloseRound ∷ tokens) = too_deep (unclosed - 1) tokens
too_deep unclosed (t.CloseSquare ∷ tokens) = too_deep (unclosed - 1) tokens
too_deep unclosed (token ∷ tokens) = too_deep unclosed tokens
