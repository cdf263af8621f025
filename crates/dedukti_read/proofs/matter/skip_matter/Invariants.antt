use Rattle.std.proofs.Common.{◌≡◌, length}
use Rattle.dedukti_read.specs.Scan.{skip}
use Rattle.dedukti_read.proofs.matter.skip_matter.Given as goal

abbrev pub decreases-loop-rest : goal.decreases-loop-rest
decreases-loop-rest l = length l.rest

abbrev pub invariant-loop-rest : goal.invariant-loop-rest
invariant-loop-rest l = skip l.rest ≡ skip l.bytes
