use Rattle.std.proofs.Common.{◌≡◌, ◌+◌, ◌++◌, count_by, length, reverse}
use Rattle.skolem_order.specs.Order.{is_existential}
use Rattle.skolem_order.specs.Sites.{outer_in}
use Rattle.skolem_order.proofs.sites.site_in.Given as goal

abbrev pub invariant-loop-one : goal.invariant-loop-one
invariant-loop-one l =
    (l.rank + count_by is_existential (reverse l.around.items) ≡ count_by is_existential (reverse l.initial.around.items))
    × (l.outer ++ outer_in l.f l.variable (reverse l.around.items) ≡ outer_in l.f 0 (reverse l.initial.around.items))

abbrev pub decreases-loop-one : goal.decreases-loop-one
decreases-loop-one l = length l.around.items
