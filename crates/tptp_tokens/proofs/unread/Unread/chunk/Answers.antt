use Rattle.std.proofs.Common.{◌≡◌, ℕ, List, length, sym, subst, arith}
use Rattle.tptp_tokens.specs.declared.token.Token.{Token}
use Rattle.tptp_tokens.specs.Chunks.{chunk}
use Rattle.tptp_tokens.specs.TokenLists.{AreTokens}
use Rattle.tptp_tokens.proofs.ChunkLaws.{chunk_so}
use Rattle.tptp_tokens.proofs.Places.{tail_knows}
use Rattle.tptp_tokens.proofs.unread.Unread.chunk.Goals as goal

are_result : (bytes now : List ℕ) (x : List Token × List ℕ) → bytes ≡ now → x ≡ chunk (length bytes) bytes → AreTokens now x.0 x.1
are_result bytes now x same e = subst (λ (y : List ℕ). AreTokens y x.0 x.1) same (subst (λ (y : List Token × List ℕ). AreTokens bytes y.0 y.1) (sym e) (chunk_so (length bytes) bytes (omega arith)))

pub invariant_of-rest : goal.invariant_of-rest
invariant_of-rest c = (tail_knows c.self.inside.closing c.in_ok-tokens.ensures.tail c.self.invariant.0, c.in_ok-tokens.ensures.knows)

pub returns-clause-are : goal.returns-clause-are
returns-clause-are c = are_result c.self.inside.bytes.now c.args.self.now _ c.self.view_is c.in_ok-tokens.ensures.tokens
