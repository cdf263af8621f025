use Rattle.std.proofs.Common.{◌≡◌, length}
use Rattle.development.proofs.nest.marks.Given as goal

abbrev pub invariant-loop-mark : goal.invariant-loop-mark
invariant-loop-mark l = length l.all ≡ l._mark
