-- The symbols so far, with those of the hypotheses that are left.
use Rattle.std.proofs.Common.{◌≡◌, drop, map, []}
use Rattle.dk_syntax.specs.Symbols.{formula_occurrences, joined, with_symbols}
use Rattle.dk_syntax.specs.declared.Named.{Named}
use Rattle.tstp_trace.proofs.problems.symbols_of_all.Given as goal

abbrev pub invariant-loop-named : goal.invariant-loop-named
invariant-loop-named l =
    with_symbols l.seen.keys (joined (map formula_occurrences (map (λ (one : Named). one.formula) (drop l.named-index l.hyps))))
    ≡ with_symbols [] (joined (map formula_occurrences (map (λ (one : Named). one.formula) l.hyps)))
