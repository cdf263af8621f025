use Rattle.std.proofs.Common.{◌≡◌, length}
use Rattle.tptp_tokens.specs.Matter.{closes}
use Rattle.tptp_tokens.specs.Skipping.{InBlock, skip, IsTail}
use Rattle.tptp_tokens.proofs.matter.after_block.Given as goal

abbrev pub decreases-loop-rest : goal.decreases-loop-rest
decreases-loop-rest l = length l.rest

abbrev pub invariant-loop-rest : goal.invariant-loop-rest
invariant-loop-rest l = record { same : closes l.rest ≡ closes l.bytes; rest : skip InBlock l.rest ≡ skip InBlock l.bytes; tail : IsTail l.rest l.bytes }
