use Rattle.std.proofs.Common.{◌≡◌, ◌≤◌, length}
use Rattle.development.specs.Lets.{lets_from}
use Rattle.lp_term.specs.View.{term_of}
use Rattle.development.proofs.lets.lets.Given as goal

abbrev pub invariant-loop-left : goal.invariant-loop-left
invariant-loop-left l =
    (l.left ≤ length l.given.plan.now.instances.rows)
    × (term_of l.all ≡ lets_from l.given.problem.now l.given.trace.now l.given.plan.now l.given.first l.given.begin l.left)

abbrev pub decreases-loop-left : goal.decreases-loop-left
decreases-loop-left l = l.left
