use Rattle.std.proofs.Common.{◌+◌, ◌*◌, length}
use Rattle.step_clause.proofs.Choices.{NoneBelow}
use Rattle.step_clause.proofs.search.+search.Given as goal

abbrev pub decreases-search : goal.decreases-search
decreases-search l = 4 * length l.slots.now

abbrev pub decreases-search_literals : goal.decreases-search_literals
decreases-search_literals l = 4 * length l.rest.now + 3

abbrev pub decreases-search_literal : goal.decreases-search_literal
decreases-search_literal l = 4 * length l.rest.now + 2

abbrev pub decreases-search_pivot : goal.decreases-search_pivot
decreases-search_pivot l = 4 * length l.rest.now + 2

abbrev pub decreases-search_atom : goal.decreases-search_atom
decreases-search_atom l = 4 * length l.rest.now + 1

abbrev pub invariant-search_literals-loop-p : goal.invariant-search_literals-loop-p
invariant-search_literals-loop-p l = NoneBelow l.target.vars l.target.lits l.pivots l.slot l.rest l.s.terms l.p
