use Rattle.std.proofs.Common.{◌≡◌, ◌++◌}
use Rattle.normal_form.specs.ClauseLists.{pairs_of}
use Rattle.normal_form.specs.Matrices.{rows_in}
use Rattle.normal_form.proofs.raw.+add_rows.Given as goal

-- the rows of the prefixes so far are added
abbrev pub invariant-add_to_each-loop-prefix : goal.invariant-add_to_each-loop-prefix
invariant-add_to_each-loop-prefix l = l.rows.items ≡ l.initial.rows.items ++ pairs_of l.yielded (rows_in l.matrix)
