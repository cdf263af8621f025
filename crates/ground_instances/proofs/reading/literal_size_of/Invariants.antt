use Rattle.std.proofs.Common.{◌≡◌, ◌+◌, sum_by, take}
use Rattle.dk_syntax.specs.Depth.{capped}
use Rattle.dk_syntax.specs.Terms.{term_size}
use Rattle.ground_instances.specs.Rows.{terms_by}
use Rattle.ground_instances.proofs.reading.literal_size_of.Given as goal

-- the sizes so far
abbrev pub invariant-loop-arg : goal.invariant-loop-arg
invariant-loop-arg l = l.total ≡ capped (1 + sum_by term_size (terms_by l.table (take l.arg-index l.arg-items)))
