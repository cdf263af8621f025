use Rattle.std.proofs.Common.{◌≡◌, ◌≤◌, drop}
use Rattle.tptp_tokens.specs.Brackets.{too_deep}
use Rattle.tptp_tokens.proofs.chunks.is_too_deep.Given as goal

abbrev pub invariant-loop-token : goal.invariant-loop-token
invariant-loop-token l = record { same : too_deep l.unclosed (drop l.token-index l.tokens) ≡ too_deep 0 l.tokens; few : l.unclosed ≤ 1000 }
