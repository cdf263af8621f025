use Rattle.std.proofs.Common.{◌≡◌, ◌++◌, drop}
use Rattle.extract.specs.ExpansionReport.{eigens_from}
use Rattle.extract.proofs.report.put_eigens.Given as goal

-- What is written, joined with what is left, is the whole.
abbrev pub invariant-loop-place : goal.invariant-loop-place
invariant-loop-place l =
    l.out.items ++ eigens_from l.origins.list l.place (drop l.place l.order) ≡ l.fn.out.items ++ eigens_from l.origins.list 0 l.order
