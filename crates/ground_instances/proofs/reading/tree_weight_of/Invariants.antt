use Rattle.std.proofs.Common.{◌≡◌, ◌+◌, sum_by, take}
use Rattle.dk_syntax.specs.Depth.{capped}
use Rattle.ground_instances.specs.Rows.{literals_by}
use Rattle.ground_instances.specs.Weights.{literal_size}
use Rattle.ground_instances.proofs.reading.tree_weight_of.Given as goal

-- the sizes so far
abbrev pub invariant-loop-one : goal.invariant-loop-one
invariant-loop-one l = l.total ≡ capped (1 + sum_by literal_size (literals_by l.table (take l.one-index l.lits)))
