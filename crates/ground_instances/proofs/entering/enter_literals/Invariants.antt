use Rattle.std.proofs.Common.{take}
use Rattle.ground_instances.specs.Growing.{AreLiteralsEntered, ground_literals}
use Rattle.ground_instances.proofs.entering.enter_literals.Given as goal

-- the literals so far
abbrev pub invariant-loop-literal : goal.invariant-loop-literal
invariant-loop-literal l =
    AreLiteralsEntered l.initial.table (ground_literals l.initial.table l.values (take l.literal-index l.lits)) l.table l.rows
