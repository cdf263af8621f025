use Rattle.std.proofs.Common.{◌≡◌, length}
use Rattle.tptp_tokens.specs.Skipping.{Between, skip, IsTail}
use Rattle.tptp_tokens.proofs.matter.skip_matter.Given as goal

abbrev pub decreases-loop-rest : goal.decreases-loop-rest
decreases-loop-rest l = length l.rest

abbrev pub invariant-loop-rest : goal.invariant-loop-rest
invariant-loop-rest l = record { rest : skip (Between l.start) l.rest ≡ skip (Between l.at_start) l.bytes; tail : IsTail l.rest l.bytes }
