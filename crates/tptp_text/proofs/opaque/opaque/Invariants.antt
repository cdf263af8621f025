use Rattle.std.proofs.Common.{◌≡◌, [], false, length, reverse}
use Rattle.tptp_text.specs.Reading.{opaque_at}
use Rattle.tptp_text.proofs.opaque.opaque.Given as goal

abbrev pub decreases-loop-rest : goal.decreases-loop-rest
decreases-loop-rest l = length l.rest

abbrev pub invariant-loop-rest : goal.invariant-loop-rest
invariant-loop-rest l = opaque_at l.in_parent (reverse l.around.items) l.some l.rest ≡ opaque_at l.in_parent [] false l.tokens
