use Rattle.std.proofs.Common.{◌+◌, ◌-◌, ◌*◌, length}
use Rattle.step_compose.proofs.SearchLaws.{NoneBelow}
use Rattle.step_compose.proofs.search.+search.Given as goal

-- the existentials without a symbol
abbrev pub decreases-search : goal.decreases-search
decreases-search l = 2 * (length l.arguments.now - length l.places.now) + 1

abbrev pub decreases-search_place : goal.decreases-search_place
decreases-search_place l = 2 * (length l.arguments.now - length l.places.now)

abbrev pub invariant-search-loop-k : goal.invariant-search-loop-k
invariant-search-loop-k l = NoneBelow l.from l.aliens l.targets.rows l.places l.k
