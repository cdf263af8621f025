use Rattle.std.proofs.Common.{◌≡◌, ◌+◌}
use Rattle.lp_term.specs.View.{term_of}
use Rattle.lp_kernel.specs.Checking.{node_count}
use Rattle.lp_kernel.specs.Counting.{nodes_in}
use Rattle.lp_kernel.proofs.count.nodes_of.Given as goal

abbrev pub invariant-nodes : goal.invariant-nodes
invariant-nodes l = l.count + node_count (term_of l.rest) + nodes_in l.left.items ≡ node_count (term_of l.t)

abbrev pub decreases-nodes : goal.decreases-nodes
decreases-nodes l = node_count (term_of l.rest) + nodes_in l.left.items
