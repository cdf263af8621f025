use Rattle.std.proofs.Common.{◌≡◌, false, length}
use Rattle.lp_read.specs.Scan.{skip}
use Rattle.lp_read.proofs.matter.skip_matter.Given as goal

abbrev pub decreases-loop-rest : goal.decreases-loop-rest
decreases-loop-rest l = length l.rest

abbrev pub invariant-loop-rest : goal.invariant-loop-rest
invariant-loop-rest l = skip false l.rest ≡ skip false l.bytes
