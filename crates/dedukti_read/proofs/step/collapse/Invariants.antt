use Rattle.std.proofs.Common.{◌≡◌, length}
use Rattle.dedukti_read.specs.Machine.{collapsed}
use Rattle.dedukti_read.proofs.step.collapse.Given as goal

abbrev pub invariant-loop-frame : goal.invariant-loop-frame
invariant-loop-frame l = record {
  widest : collapsed l.term l.place.frames l.place.scope ≡ collapsed l.fn.term l.initial.place.frames l.initial.place.scope;
  patterns : l.place.patterns ≡ l.initial.place.patterns;
}

abbrev pub decreases-loop-frame : goal.decreases-loop-frame
decreases-loop-frame l = length l.place.frames
