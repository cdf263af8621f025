-- The clauses so far are justified.
use Rattle.std.proofs.Common.{◌≡◌, take}
use Rattle.step_compose.specs.Composing.{AreJustified}
use Rattle.step_check.proofs.clausal.justified.Given as goal

abbrev pub invariant-loop-k : goal.invariant-loop-k
invariant-loop-k l = AreJustified (take l.k l.targets.rows) l.lists l.steps
