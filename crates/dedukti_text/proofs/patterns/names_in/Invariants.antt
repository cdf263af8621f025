use Rattle.std.proofs.Common.{◌≡◌, []}
use Rattle.dedukti_text.specs.Patterns.{pattern_names, with_names}
use Rattle.dedukti_text.specs.Walks.{names_of, rest_patterns, rest_weight}
use Rattle.dedukti_text.proofs.patterns.names_in.Given as goal

-- with the pattern variables that are still to come the list is the one wanted
abbrev pub invariant-loop-next : goal.invariant-loop-next
invariant-loop-next l = with_names (names_of l.seen.keys) (rest_patterns l.rest.items) ≡ pattern_names l.fn.t

abbrev pub decreases-loop-next : goal.decreases-loop-next
decreases-loop-next l = rest_weight l.rest.items
