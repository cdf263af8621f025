use Rattle.std.proofs.Common.{◌≡◌, None, replicate}
use Rattle.unifier.proofs.settling.none_known.Given as goal

abbrev pub invariant-loop-k : goal.invariant-loop-k
invariant-loop-k l = l.known.items ≡ replicate l._k None
