use Rattle.std.proofs.Common.{◌≡◌, ◌≤◌}
use Rattle.lp_term.specs.View.{term_of}
use Rattle.lp_term.specs.declared.lp.Lp.{size-Lp}
use Rattle.lp_exact.specs.Objects.{simple_of}
use Rattle.lp_kernel.specs.Walking.{size_after, size_of}
use Rattle.lp_kernel.proofs.resume.+size_of_simple.Given as goal

abbrev pub invariant-codomains : goal.invariant-codomains
invariant-codomains l =
    (size_after l.domains (size_of (simple_of (term_of l.rest))) ≡ size_of (simple_of (term_of l.t))) × (size-Lp l.rest ≤ size-Lp l.t)

abbrev pub decreases-codomains : goal.decreases-codomains
decreases-codomains l = size-Lp l.rest
