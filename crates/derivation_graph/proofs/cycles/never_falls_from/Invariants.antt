-- Each parent before the index has at least the rank.
use Rattle.std.specs.Prelude.{ℕ, ◌<◌, ◌≤◌, get_or}
use Rattle.derivation_graph.specs.Ranks.{rank_in}
use Rattle.derivation_graph.proofs.cycles.never_falls_from.Given as goal

abbrev pub invariant-loop-parent : goal.invariant-loop-parent
invariant-loop-parent l = (k : ℕ) → k < l.parent-index → l.rank ≤ rank_in l.ranks (get_or l.parent-items k 0)
