-- Ranks that never fall along parents show that no walk leads back to a step from which they rise.
use Rattle.std.proofs.Common.{ℕ, ◌<◌, ◌≤◌, List, arith}
use Rattle.derivation_graph.specs.Graphs.{IsLeastOnCycle, IsOnCycle, Walks, turn, onward}
use Rattle.derivation_graph.specs.Ranks.{NeverFalls, rank_in, RisesFrom}

module _ (rows : List (List ℕ)) (ranks : List ℕ) (never : NeverFalls rows ranks) where
  walk_never_falls : (from to : ℕ) → Walks rows from to → rank_in ranks from ≤ rank_in ranks to
  walk_never_falls _ _ (turn from to h) = never from to h
  walk_never_falls _ _ (onward from through to h rest) =
      let a = never from through h in let b = walk_never_falls through to rest in omega arith

  pub no_cycle_where_rises : (step : ℕ) → RisesFrom rows ranks step → IsOnCycle rows step → ⊥
  no_cycle_where_rises step rises (turn from to h) = let a = rises step h in omega arith
  no_cycle_where_rises step rises (onward from through to h rest) =
      let a = rises through h in let b = walk_never_falls through step rest in omega arith

  -- so a step on a cycle, where they rise from each step before it, is the least on a cycle
  pub least_where_rises : (step : ℕ) → IsOnCycle rows step → ((other : ℕ) → other < step → RisesFrom rows ranks other) → IsLeastOnCycle rows step
  least_where_rises step cycle rises = (cycle, λ other below walk. no_cycle_where_rises other (rises other below) walk)
