use Rattle.std.proofs.Common.{◌≡◌, ◌++◌, drop, codes}
use Rattle.std.specs.List.{flat_map}
use Rattle.tptp_text.specs.Printed.{printed_literal}
use Rattle.extract.proofs.report_lines.put_more_literals.Given as goal

-- What is written, joined with what is left, is the whole.
abbrev pub invariant-loop-literal : goal.invariant-loop-literal
invariant-loop-literal l =
    l.out.items ++ flat_map (λ literal. codes " | " ++ printed_literal literal 0) (drop l.literal-index l.literals) ≡ l.fn.out.items ++ flat_map (λ literal. codes " | " ++ printed_literal literal 0) l.literals
