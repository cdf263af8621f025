use Rattle.std.proofs.Common.{◌≡◌, length, take}
use Rattle.tptp_formulas.proofs.scopes.unbind.Given as goal

abbrev pub invariant-loop-bound : goal.invariant-loop-bound
invariant-loop-bound l = take l.left l.bound ≡ take l.left l.initial.bound

abbrev pub decreases-loop-bound : goal.decreases-loop-bound
decreases-loop-bound l = length l.bound
