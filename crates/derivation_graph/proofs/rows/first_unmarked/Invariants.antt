-- Each parent before the index is marked.
use Rattle.std.specs.Prelude.{ℕ, ◌<◌, get_or}
use Rattle.derivation_graph.specs.Agendas.{IsMarked}
use Rattle.derivation_graph.proofs.rows.first_unmarked.Given as goal

abbrev pub invariant-loop-parent : goal.invariant-loop-parent
invariant-loop-parent l = (k : ℕ) → k < l.parent-index → IsMarked l.marks (get_or l.parents k 0)
