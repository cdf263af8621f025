use Rattle.std.proofs.Common.{◌≡◌, ◌++◌, length}
use Rattle.lp_term.specs.Signature.{declarations}
use Rattle.lp_kernel.specs.Signatures.{sig_of}
use Rattle.lp_kernel.proofs.development.signature_of.Given as goal

abbrev pub invariant-commands : goal.invariant-commands
invariant-commands l = sig_of l.sig ++ declarations l.rest ≡ declarations l.commands

abbrev pub decreases-commands : goal.decreases-commands
decreases-commands l = length l.rest
