use Rattle.std.proofs.Common.{◌≡◌, length, sum_by, take}
use Rattle.dk_syntax.specs.Depth.{capped}
use Rattle.ground_instances.specs.declared.instance.Row.{Row}
use Rattle.ground_instances.proofs.reading.count_literals.Given as goal

-- the literals so far
abbrev pub invariant-loop-row : goal.invariant-loop-row
invariant-loop-row l = l.total ≡ capped (sum_by (λ (row : Row). length row.lits) (take l.row-index l.rows))
