use Rattle.std.proofs.Common.{◌≡◌, ◌+◌, length, take}
use Rattle.std.specs.Prelude.{reverse}
use Rattle.lp_read.specs.Scopes.{binder_of}
use Rattle.dedukti_read.proofs.ScopeSteps.{behind}
use Rattle.dedukti_read.proofs.scope.nearest.Given as goal

abbrev pub decreases-loop-left : goal.decreases-loop-left
decreases-loop-left l = l.left

abbrev pub invariant-loop-left : goal.invariant-loop-left
invariant-loop-left l = record {
  same : behind l.between (binder_of (reverse (take l.left l.names)) l.name) ≡ binder_of (reverse l.names) l.name;
  all : l.left + l.between ≡ length l.names;
}
