use Rattle.std.proofs.Common.{◌≡◌, ◌≤◌, drop, length}
use Rattle.assemble.specs.Fitting.{eigenvariables_of}
use Rattle.development.specs.Nest.{nested}
use Rattle.lp_term.specs.View.{term_of}
use Rattle.development.proofs.nest.nest.Given as goal

abbrev pub invariant-loop-left : goal.invariant-loop-left
invariant-loop-left l =
    (l.left ≤ length l.given.plan.now.order)
    × (length l.known ≡ l.left)
    × (term_of l.all
    ≡ nested l.given.denied l.given.first l.left (drop l.left (eigenvariables_of l.given.plan.now.origins.list l.given.plan.now.order)) (term_of l.conjecture) (term_of l.fn.inside))

abbrev pub decreases-loop-left : goal.decreases-loop-left
decreases-loop-left l = l.left
