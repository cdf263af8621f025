use Rattle.std.proofs.Common.{◌≡◌, ◌≤◌, length}
use Rattle.tptp_tokens.specs.Bytes.{is_word}
use Rattle.tptp_tokens.specs.Scan.{after}
use Rattle.tptp_tokens.proofs.words.after_word.Given as goal

abbrev pub invariant-loop-rest : goal.invariant-loop-rest
invariant-loop-rest l = record { rest : after is_word l.rest ≡ after is_word l.bytes; less : length l.rest ≤ length l.bytes }

abbrev pub decreases-loop-rest : goal.decreases-loop-rest
decreases-loop-rest l = length l.rest
