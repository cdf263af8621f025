use Rattle.std.proofs.Common.{◌≡◌, length, ◌-◌}
use Rattle.tptp_formulas.specs.Reading.{prefixes_at}
use Rattle.tptp_formulas.proofs.Rooms.{with_front}
use Rattle.tptp_formulas.proofs.formulas.read_prefixes.Given as goal

abbrev pub invariant-loop : goal.invariant-loop
invariant-loop l = with_front l.prefixes (prefixes_at (length l.tokens - l.counter) l.rest) ≡ prefixes_at (length l.tokens) l.tokens
