use Rattle.std.proofs.Common.{◌≡◌, ◌≤◌, drop, length, map}
use Rattle.std.specs.Cmp.Lexicographic.{slice_cmp}
use Rattle.dk_syntax.specs.Order.{compared}
use Rattle.normal_form.specs.LiteralOrder.{argument_order}
use Rattle.normal_form.proofs.literal_order.+argument_order.Given as goal

-- what is left of the two lists decides
abbrev pub invariant-arguments_order-loop-i : goal.invariant-arguments_order-loop-i
invariant-arguments_order-loop-i l =
    (l.i ≤ length l.ys) × (slice_cmp compared (map argument_order (drop l.i l.xs)) (drop l.i l.ys) ≡ slice_cmp compared (map argument_order l.xs) l.ys)
