use Rattle.std.proofs.Common.{◌≡◌, ℕ, ◌<◌}
use Rattle.expansion.specs.Rows.{term_at}
use Rattle.skolem_order.proofs.eigenvariables.place_of.Given as goal

abbrev pub invariant-loop-place : goal.invariant-loop-place
invariant-loop-place l = (k : ℕ) → k < l.place → term_at l.order k ≡ l.t → ⊥
