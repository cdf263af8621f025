use Rattle.std.proofs.Common.{◌+◌, ◌*◌, ◌^◌, length}
use Rattle.step_chain.proofs.LeastLaws.{NoneUpTo}
use Rattle.step_chain.specs.Search.{HasLink}
use Rattle.step_chain.proofs.search.+search.Given as goal

-- the lists to come count most, and then the literals of which it is still to be chosen, fewer than 2 ^ 64
abbrev pub decreases-search : goal.decreases-search
decreases-search l = 2 ^ 67 * length l.rest.now

abbrev pub decreases-search_rows : goal.decreases-search_rows
decreases-search_rows l = 2 ^ 67 * length l.later.now + (2 ^ 66 + 2)

abbrev pub decreases-search_clause : goal.decreases-search_clause
decreases-search_clause l = 2 ^ 67 * length l.later.now + (2 ^ 66 + 1)

abbrev pub decreases-search_sign : goal.decreases-search_sign
decreases-search_sign l = 2 ^ 67 * length l.later.now + 2 ^ 66

abbrev pub decreases-choose : goal.decreases-choose
decreases-choose l = 2 ^ 67 * length l.later.now + (l.left + 2)

abbrev pub decreases-branch : goal.decreases-branch
decreases-branch l = 2 ^ 67 * length l.later.now + 1

abbrev pub invariant-search_rows-loop-k : goal.invariant-search_rows-loop-k
invariant-search_rows-loop-k l = NoneUpTo (λ other row. HasLink l.target l.later l.number l.first other row.clause) l.next.rows l.k
