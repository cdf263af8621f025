use Rattle.std.proofs.Common.{◌≡◌, length, ◌-◌}
use Rattle.tptp_tokens.specs.Chunks.{chunk}
use Rattle.tptp_tokens.specs.Quotes.{KnowsUnclosed}
use Rattle.tptp_tokens.specs.Skipping.{IsTail}
use Rattle.tptp_tokens.proofs.Places.{with_tokens}
use Rattle.tptp_tokens.proofs.chunks.tokens_of.Given as goal

abbrev pub invariant-loop : goal.invariant-loop
invariant-loop l = record { same : with_tokens l.tokens.items (chunk (length l.bytes - l.counter) l.rest) ≡ chunk (length l.bytes) l.bytes; tail : IsTail l.rest l.bytes; knows : KnowsUnclosed l.unclosed l.rest }
