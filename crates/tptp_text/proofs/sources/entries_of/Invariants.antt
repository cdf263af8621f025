use Rattle.std.proofs.Common.{◌≡◌, ◌-◌, length}
use Rattle.tptp_text.specs.Reading.{entries_at}
use Rattle.tptp_text.proofs.Layers.{with_status}
use Rattle.tptp_text.proofs.sources.entries_of.Given as goal

abbrev pub invariant-loop : goal.invariant-loop
invariant-loop l = with_status l.status (entries_at (length l.tokens - l.counter) l.rest) ≡ entries_at (length l.tokens) l.tokens
