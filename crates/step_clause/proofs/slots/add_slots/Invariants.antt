use Rattle.std.proofs.Common.{◌≡◌, ◌++◌, map, take}
use Rattle.step_clause.specs.Slots.{slot_of}
use Rattle.step_clause.proofs.slots.add_slots.Given as goal

abbrev pub invariant-loop-literal : goal.invariant-loop-literal
invariant-loop-literal l = l.slots ≡ l.fn.slots ++ map (slot_of l.n l.side) (take l.literal-index l.literals)
