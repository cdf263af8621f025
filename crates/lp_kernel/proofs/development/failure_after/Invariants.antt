use Rattle.std.proofs.Common.{◌≡◌, length}
use Rattle.lp_kernel.specs.Developments.{failure_after}
use Rattle.lp_kernel.specs.Signatures.{sig_of}
use Rattle.lp_kernel.proofs.development.failure_after.Given as goal

abbrev pub invariant-constants : goal.invariant-constants
invariant-constants l = failure_after (sig_of l.entries) l.number l.rest ≡ failure_after (sig_of l.fn.sig) l.first l.commands

abbrev pub decreases-constants : goal.decreases-constants
decreases-constants l = length l.rest
