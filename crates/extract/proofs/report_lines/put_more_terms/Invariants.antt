use Rattle.std.proofs.Common.{◌≡◌, ◌++◌, drop, codes}
use Rattle.std.specs.List.{flat_map}
use Rattle.tptp_text.specs.Printed.{printed_term}
use Rattle.extract.proofs.report_lines.put_more_terms.Given as goal

-- What is written, joined with what is left, is the whole.
abbrev pub invariant-loop-term : goal.invariant-loop-term
invariant-loop-term l =
    l.out.items ++ flat_map (λ term. codes ", " ++ printed_term term 0) (drop l.term-index l.terms) ≡ l.fn.out.items ++ flat_map (λ term. codes ", " ++ printed_term term 0) l.terms
