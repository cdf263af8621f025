use Rattle.std.proofs.Common.{◌≡◌, map}
use Rattle.normal_form.specs.ClauseLists.{row_of}
use Rattle.normal_form.proofs.clause_list.number_rows.Given as goal

-- the rows so far are made
abbrev pub invariant-loop-one : goal.invariant-loop-one
invariant-loop-one l = l.rows ≡ map row_of l.yielded
