-- The nodes of the parts of a term that are still to be counted.
use Rattle.std.specs.Prelude.{ℕ, ◌+◌, List, [], ◌∷◌}
use Rattle.std.specs.Borrow.{Bor}
use Rattle.lp_term.specs.View.{term_of}
use Rattle.lp_term.specs.declared.lp.Lp.{Lp}
use Rattle.lp_kernel.specs.Checking.{node_count}

-- the nodes of all these terms
abbrev pub nodes_in : List (Bor Lp) → ℕ
nodes_in [] = 0
nodes_in (t ∷ rest) = nodes_in rest + node_count (term_of t.now)
