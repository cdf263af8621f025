use Rattle.std.proofs.Common.{◌≡◌, ◌↔◌, ◌+◌, ◌*◌, ◌≤◌}
use Rattle.lp_term.specs.View.{term_of}
use Rattle.lp_term.specs.declared.lp.Lp.{size-Lp}
use Rattle.lp_exact.specs.LazyTypes.{full, type_weight}
use Rattle.lp_exact.proofs.same.+same_lazy.Given as goal

abbrev pub decreases-same_product : goal.decreases-same_product
decreases-same_product l = 2 * (type_weight (term_of l.first.now) + type_weight (term_of l.rest.now) + 1 + type_weight (term_of l.b.now))

abbrev pub decreases-same_open : goal.decreases-same_open
decreases-same_open l = 2 * (type_weight (term_of l.a.now) + type_weight (term_of l.b.now)) + 1

abbrev pub decreases-same_layers : goal.decreases-same_layers
decreases-same_layers l = 2 * (type_weight (term_of l.a.now) + type_weight (term_of l.b.now)) + 2

abbrev pub decreases-same_lazy : goal.decreases-same_lazy
decreases-same_lazy l = 2 * (type_weight (term_of l.a.now) + type_weight (term_of l.b.now)) + 3

abbrev pub invariant-same_lazy-loop-left : goal.invariant-same_lazy-loop-left
invariant-same_lazy-loop-left l =
    ((full (term_of l.left) ≡ full (term_of l.right)) ↔ (full (term_of l.a) ≡ full (term_of l.b)))
    × (type_weight (term_of l.left) ≤ type_weight (term_of l.a))
    × (type_weight (term_of l.right) ≤ type_weight (term_of l.b))

abbrev pub decreases-same_lazy-loop-left : goal.decreases-same_lazy-loop-left
decreases-same_lazy-loop-left l = size-Lp l.left
