use Rattle.std.proofs.Common.{◌≡◌, ◌≤◌, drop, length, map}
use Rattle.std.specs.Cmp.Lexicographic.{slice_cmp}
use Rattle.dk_syntax.specs.Order.{compared, order_of}
use Rattle.dk_syntax.proofs.order.+term_order.Given as goal

-- what is left of the two lists decides
abbrev pub invariant-terms_order-loop-i : goal.invariant-terms_order-loop-i
invariant-terms_order-loop-i l =
    (l.i ≤ length l.ys) × (slice_cmp compared (map order_of (drop l.i l.xs)) (drop l.i l.ys) ≡ slice_cmp compared (map order_of l.xs) l.ys)
