use Rattle.std.proofs.Common.{◌≡◌, length}
use Rattle.std.specs.Prelude.{◌==◌, if◌then◌else◌}
use Rattle.tptp_tokens.specs.Skipping.{last_closing}
use Rattle.tptp_tokens.proofs.matter.closing_tail.Given as goal

abbrev pub decreases-loop-rest : goal.decreases-loop-rest
decreases-loop-rest l = length l.rest

abbrev pub invariant-loop-rest : goal.invariant-loop-rest
invariant-loop-rest l = (if last_closing l.rest == 0 then l.closing else last_closing l.rest) ≡ last_closing l.bytes
