use Rattle.std.proofs.Common.{◌≡◌, map, take}
use Rattle.std.specs.Map.{keys_of}
use Rattle.dk_syntax.specs.Shapes.{terms_of}
use Rattle.dk_syntax.specs.TermTables.{term_of}
use Rattle.dk_syntax.proofs.term_table.+written.Given as goal

abbrev pub decreases-written : goal.decreases-written
decreases-written l = l.n

-- the arguments so far
abbrev pub invariant-loop-number : goal.invariant-loop-number
invariant-loop-number l = l.args ≡ map (term_of (terms_of (keys_of l.entries.entries))) (take l.number-index l.number-items)
