-- Variables in order.
use Rattle.std.proofs.Common.{◌≡◌, ◌+◌, ◌-◌, ◌<◌, ℕ, zero, suc, map, ap, ◌∙◌, arith}
use Rattle.std.specs.List.{range_with_len}
use Rattle.assemble.specs.Levels.{at_level}
use Rattle.lp_term.specs.LambdaPi.{Term, app, var}
use Rattle.nd_term.specs.Instances.{applied_to, at_place}
use Rattle.nd_term.specs.Places.{last_variables}

-- one variable less
pub in_order_step : (left : ℕ) (u v w : Term) → 0 < left → v ≡ app u w → w ≡ var (left - 1) → applied_to v (last_variables (left - 1)) ≡ applied_to u (last_variables left)
in_order_step left u v w h e q =
    let k : suc (left - 1) ≡ left = omega arith in
    ap (λ t. applied_to t (last_variables (left - 1))) (e ∙ ap (app u) q) ∙ ap (λ j. applied_to u (last_variables j)) k

-- the variable at a place among those of consecutive levels
pub at_range : (n b count k : ℕ) → k < count → at_place (map (at_level n) (range_with_len b count)) k ≡ at_level n (b + k)
at_range n b zero k h = absurd (omega arith)
at_range n b (suc count) zero h = let e : b ≡ b + 0 = omega arith in ap (at_level n) e
at_range n b (suc count) (suc k) h = let e : b + 1 + k ≡ b + suc k = omega arith in at_range n (b + 1) count k (omega arith) ∙ ap (at_level n) e

-- the same where the first level is 0
pub at_hypothesis : (n count k : ℕ) → k < count → at_place (map (at_level n) (range_with_len 0 count)) k ≡ at_level n k
at_hypothesis n count k h = let e : 0 + k ≡ k = omega arith in at_range n 0 count k h ∙ ap (at_level n) e
