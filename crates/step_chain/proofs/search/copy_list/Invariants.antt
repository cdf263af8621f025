use Rattle.std.proofs.Common.{◌≡◌, take}
use Rattle.step_chain.proofs.search.copy_list.Given as goal

abbrev pub invariant-loop-row : goal.invariant-loop-row
invariant-loop-row l = l.rows ≡ take l.row-index l.list.rows
