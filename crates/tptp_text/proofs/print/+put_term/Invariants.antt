use Rattle.std.proofs.Common.{◌≡◌, ◌++◌, drop, map}
use Rattle.tptp_text.specs.Printed.{list_text, printed_term}
use Rattle.tptp_text.proofs.print.+put_term.Given as goal

-- with the text of the arguments that are left the text is the one that the loop makes
abbrev pub invariant-put_arguments-loop-term : goal.invariant-put_arguments-loop-term
invariant-put_arguments-loop-term l =
    l.out.items ++ list_text l.mark (map printed_term (drop l.term-index l.terms)) l.level ≡ l.initial.out.items ++ list_text 40 (map printed_term l.terms) l.level
