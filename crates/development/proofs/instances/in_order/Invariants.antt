use Rattle.std.proofs.Common.{◌≡◌}
use Rattle.lp_term.specs.View.{term_of}
use Rattle.development.specs.Proofs.{proof_at}
use Rattle.nd_term.specs.Instances.{applied_to}
use Rattle.nd_term.specs.Places.{last_variables}
use Rattle.development.proofs.instances.in_order.Given as goal

abbrev pub invariant-loop-left : goal.invariant-loop-left
invariant-loop-left l = applied_to (term_of l.all) (last_variables l.left) ≡ proof_at l.place l.level l.count

abbrev pub decreases-loop-left : goal.decreases-loop-left
decreases-loop-left l = l.left
