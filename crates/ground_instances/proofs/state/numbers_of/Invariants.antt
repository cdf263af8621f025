use Rattle.std.proofs.Common.{take}
use Rattle.ground_instances.specs.States.{AreNumbersOf}
use Rattle.ground_instances.proofs.state.numbers_of.Given as goal

-- the numbers so far
abbrev pub invariant-loop-named : goal.invariant-loop-named
invariant-loop-named l = AreNumbersOf l.names.keys (take l.named-index l.needs) l.numbers
