use Rattle.std.proofs.Common.{◌≡◌, drop, length, map, reverse}
use Rattle.dk_syntax.specs.Lists.{all_true}
use Rattle.step_skolem.specs.Searching.{covers_term, is_covered}
use Rattle.step_skolem.proofs.fitting.+is_term_covered.Given as goal

-- those before are covered
abbrev pub invariant-are_terms_covered-loop-term : goal.invariant-are_terms_covered-loop-term
invariant-are_terms_covered-loop-term l =
    all_true (map (covers_term (is_covered (length l.walk.kept.items) (reverse l.walk.values.items) l.variables) l.bound) (drop l.term-index l.terms))
    ≡ all_true (map (covers_term (is_covered (length l.walk.kept.items) (reverse l.walk.values.items) l.variables) l.bound) l.terms)
