use Rattle.std.proofs.Common.{◌≡◌, ◌≤◌, length}
use Rattle.tptp_tokens.specs.Bytes.{is_digit}
use Rattle.tptp_tokens.specs.Scan.{after}
use Rattle.tptp_tokens.proofs.numbers.after_digit_run.Given as goal

abbrev pub invariant-loop-rest : goal.invariant-loop-rest
invariant-loop-rest l = record { rest : after is_digit l.rest ≡ after is_digit l.bytes; less : length l.rest ≤ length l.bytes }

abbrev pub decreases-loop-rest : goal.decreases-loop-rest
decreases-loop-rest l = length l.rest
