use Rattle.std.proofs.Common.{◌≡◌, ◌≤◌, length}
use Rattle.dedukti_read.specs.Matter.{has_end}
use Rattle.dedukti_read.specs.Scan.{Inside, skip_from}
use Rattle.dedukti_read.proofs.matter.behind_end.Given as goal

abbrev pub decreases-loop-rest : goal.decreases-loop-rest
decreases-loop-rest l = length l.rest

abbrev pub invariant-loop-rest : goal.invariant-loop-rest
invariant-loop-rest l = record {
  ends : has_end l.rest ≡ has_end l.bytes;
  rest : skip_from Inside l.rest ≡ skip_from Inside l.bytes;
  less : length l.rest ≤ length l.bytes;
}
