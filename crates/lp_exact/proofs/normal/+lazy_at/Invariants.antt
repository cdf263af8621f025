use Rattle.std.proofs.Common.{◌≡◌, ◌≤◌}
use Rattle.lp_term.specs.View.{term_of}
use Rattle.lp_term.specs.declared.lp.Lp.{size-Lp}
use Rattle.lp_exact.specs.Normalisation.{normal_at}
use Rattle.lp_exact.specs.Products.{products}
use Rattle.lp_exact.proofs.normal.+lazy_at.Given as goal

abbrev pub invariant-loop-rest : goal.invariant-loop-rest
invariant-loop-rest l =
    (products l.domains (normal_at l.rank (term_of l.rest)) ≡ normal_at l.rank (term_of l.t)) × (size-Lp l.rest ≤ size-Lp l.t)

abbrev pub decreases-loop-rest : goal.decreases-loop-rest
decreases-loop-rest l = size-Lp l.rest
