use Rattle.std.proofs.Common.{◌≡◌, length}
use Rattle.lp_kernel.specs.Walking.{checked_of, over_domains}
use Rattle.lp_kernel.proofs.products.products_of.Given as goal

abbrev pub invariant-loop-domain : goal.invariant-loop-domain
invariant-loop-domain l = over_domains l.left (checked_of l.all) ≡ over_domains l.initial.left (checked_of l.initial.all)

abbrev pub decreases-loop-domain : goal.decreases-loop-domain
decreases-loop-domain l = length l.left
