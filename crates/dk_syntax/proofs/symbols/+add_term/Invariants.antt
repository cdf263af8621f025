use Rattle.std.proofs.Common.{◌≡◌, drop, map}
use Rattle.dk_syntax.specs.Symbols.{joined, term_occurrences, with_symbols}
use Rattle.dk_syntax.proofs.symbols.+add_term.Given as goal

-- with the symbols of what is left the list is the one that the loop makes
abbrev pub invariant-add_terms-loop-term : goal.invariant-add_terms-loop-term
invariant-add_terms-loop-term l =
    with_symbols l.seen.keys (joined (map term_occurrences (drop l.term-index l.terms))) ≡ with_symbols l.initial.seen.keys (joined (map term_occurrences l.terms))
