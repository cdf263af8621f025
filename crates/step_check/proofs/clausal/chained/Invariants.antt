-- The clauses so far have their chains.
use Rattle.std.proofs.Common.{◌≡◌, take}
use Rattle.step_check.specs.Verdicts.{AreChained}
use Rattle.step_check.proofs.clausal.chained.Given as goal

abbrev pub invariant-loop-k : goal.invariant-loop-k
invariant-loop-k l = AreChained (take l.k l.targets.rows) l.lists l.chains
