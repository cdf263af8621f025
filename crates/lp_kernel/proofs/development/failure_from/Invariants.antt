use Rattle.std.proofs.Common.{◌≡◌, length}
use Rattle.lp_kernel.specs.Developments.{failure_from}
use Rattle.lp_kernel.proofs.development.failure_from.Given as goal

abbrev pub invariant-prelude : goal.invariant-prelude
invariant-prelude l = failure_from l.left l.number l.rest ≡ failure_from l.expected 1 l.commands

abbrev pub decreases-prelude : goal.decreases-prelude
decreases-prelude l = length l.left
