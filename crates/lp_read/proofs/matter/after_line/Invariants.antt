use Rattle.std.proofs.Common.{◌≡◌, ◌≤◌, true, length}
use Rattle.lp_read.specs.Scan.{skip}
use Rattle.lp_read.proofs.matter.after_line.Given as goal

abbrev pub decreases-loop-rest : goal.decreases-loop-rest
decreases-loop-rest l = length l.rest

abbrev pub invariant-loop-rest : goal.invariant-loop-rest
invariant-loop-rest l = record { rest : skip true l.rest ≡ skip true l.bytes; less : length l.rest ≤ length l.bytes }
