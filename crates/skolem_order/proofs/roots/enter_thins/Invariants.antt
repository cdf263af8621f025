use Rattle.std.proofs.Common.{take}
use Rattle.std.specs.List.{flat_map}
use Rattle.skolem_order.specs.Order.{thin_terms}
use Rattle.skolem_order.specs.Tables.{HasEntered}
use Rattle.skolem_order.proofs.roots.enter_thins.Given as goal

abbrev pub invariant-loop-thin : goal.invariant-loop-thin
invariant-loop-thin l = HasEntered l.fn.table (flat_map thin_terms (take l.thin-index l.thins)) l.table
