use Rattle.std.proofs.Common.{◌≡◌, length}
use Rattle.tptp_tokens.specs.Skipping.{InLine, skip, IsTail}
use Rattle.tptp_tokens.proofs.matter.after_line.Given as goal

abbrev pub decreases-loop-rest : goal.decreases-loop-rest
decreases-loop-rest l = length l.rest

abbrev pub invariant-loop-rest : goal.invariant-loop-rest
invariant-loop-rest l = record { rest : skip InLine l.rest ≡ skip InLine l.bytes; tail : IsTail l.rest l.bytes }
