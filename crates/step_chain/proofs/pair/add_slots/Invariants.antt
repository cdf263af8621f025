use Rattle.std.proofs.Common.{◌≡◌, ◌++◌, take}
use Rattle.step_chain.specs.Pairs.{slots_of}
use Rattle.step_chain.proofs.pair.add_slots.Given as goal

abbrev pub invariant-loop-literal : goal.invariant-loop-literal
invariant-loop-literal l = l.slots ≡ l.fn.slots ++ slots_of l.n l.sign (take l.literal-index l.literals)
