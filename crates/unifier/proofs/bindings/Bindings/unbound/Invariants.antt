use Rattle.std.proofs.Common.{◌≡◌, replicate, None}
use Rattle.unifier.proofs.bindings.Bindings.unbound.Given as goal

abbrev pub invariant-loop-k : goal.invariant-loop-k
invariant-loop-k l = l.terms ≡ replicate l._k None
