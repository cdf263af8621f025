use Rattle.std.proofs.Common.{ℕ, ◌<◌}
use Rattle.derivation_graph.specs.Agendas.{IsMarked}
use Rattle.derivation_graph.proofs.listing.all_marked.Given as goal

abbrev pub invariant-loop-number : goal.invariant-loop-number
invariant-loop-number l = (n : ℕ) → 0 < n → n < l.number → IsMarked l.marks n
