use Rattle.std.proofs.Common.{◌≡◌, length}
use Rattle.lp_term.specs.View.{term_of}
use Rattle.lp_exact.specs.Products.{products}
use Rattle.lp_exact.proofs.normal.all_products.Given as goal

abbrev pub invariant-loop-domain : goal.invariant-loop-domain
invariant-loop-domain l = products l.left (term_of l.all) ≡ products l.initial.left (term_of l.initial.all)

abbrev pub decreases-loop-domain : goal.decreases-loop-domain
decreases-loop-domain l = length l.left
