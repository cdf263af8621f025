use Rattle.std.proofs.Common.{◌≡◌, length}
use Rattle.lp_kernel.specs.Walking.{found_of, resumed}
use Rattle.lp_kernel.proofs.resume.resume_all.Given as goal

abbrev pub invariant-loop-frame : goal.invariant-loop-frame
invariant-loop-frame l = resumed l.left (found_of l.all) ≡ resumed l.initial.left (found_of l.initial.all)

abbrev pub decreases-loop-frame : goal.decreases-loop-frame
decreases-loop-frame l = length l.left
