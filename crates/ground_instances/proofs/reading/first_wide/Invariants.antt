use Rattle.std.proofs.Common.{ℕ, ◌<◌, slice_get, ◌≡◌, Some}
use Rattle.ground_instances.specs.Instances.{IsWide}
use Rattle.ground_instances.specs.Rows.{written}
use Rattle.ground_instances.specs.declared.instance.Row.{Row}
use Rattle.ground_instances.proofs.reading.first_wide.Given as goal

-- no row so far is wide
abbrev pub invariant-loop-row : goal.invariant-loop-row
invariant-loop-row l = (k : ℕ) (row : Row) → k < l.row-index → slice_get l.rows k ≡ Some row → IsWide (written l.table row) → ⊥
