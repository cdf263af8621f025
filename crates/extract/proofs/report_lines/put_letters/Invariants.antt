use Rattle.std.proofs.Common.{◌≡◌, ◌++◌, drop, map}
use Rattle.extract.specs.ExpansionReport.{side_letter}
use Rattle.extract.proofs.report_lines.put_letters.Given as goal

-- What is written, joined with what is left, is the whole.
abbrev pub invariant-loop-right : goal.invariant-loop-right
invariant-loop-right l =
    l.out.items ++ map side_letter (drop l.right-index l.sides) ≡ l.fn.out.items ++ map side_letter l.sides
