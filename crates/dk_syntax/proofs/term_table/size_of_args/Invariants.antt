-- The sum of the sizes so far.
use Rattle.std.proofs.Common.{◌≡◌, get_or, sum_by, take}
use Rattle.std.specs.Map.{values_of}
use Rattle.dk_syntax.specs.Depth.{capped}
use Rattle.dk_syntax.proofs.term_table.size_of_args.Given as goal

abbrev pub invariant-loop-arg : goal.invariant-loop-arg
invariant-loop-arg l = l.total ≡ capped (sum_by (λ n. get_or (values_of l.entries.entries) n 0) (take l.arg-index l.args))
