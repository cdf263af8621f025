use Rattle.std.proofs.Common.{◌≡◌, ◌≤◌, ◌+◌, ◌*◌}
use Rattle.lp_term.specs.View.{term_of}
use Rattle.lp_term.specs.declared.lp.Lp.{size-Lp}
use Rattle.lp_exact.specs.LazyTypes.{full, type_weight}
use Rattle.lp_exact.specs.Products.{products}
use Rattle.lp_exact.proofs.types.+full_type.Given as goal

abbrev pub decreases-full_open : goal.decreases-full_open
decreases-full_open l = 3 * type_weight (term_of l.t.now)

abbrev pub decreases-full_layers : goal.decreases-full_layers
decreases-full_layers l = 3 * type_weight (term_of l.t.now) + 1

abbrev pub decreases-full_type : goal.decreases-full_type
decreases-full_type l = 3 * type_weight (term_of l.t.now) + 2

abbrev pub invariant-full_type-loop-rest : goal.invariant-full_type-loop-rest
invariant-full_type-loop-rest l =
    (products l.domains (full (term_of l.rest)) ≡ full (term_of l.t)) × (type_weight (term_of l.rest) ≤ type_weight (term_of l.t))

abbrev pub decreases-full_type-loop-rest : goal.decreases-full_type-loop-rest
decreases-full_type-loop-rest l = size-Lp l.rest
