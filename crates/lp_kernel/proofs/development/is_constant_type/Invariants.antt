use Rattle.std.proofs.Common.{◌≡◌}
use Rattle.lp_term.specs.View.{term_of}
use Rattle.lp_term.specs.declared.lp.Lp.{size-Lp}
use Rattle.lp_kernel.specs.Developments.{is_constant_type}
use Rattle.lp_kernel.proofs.development.is_constant_type.Given as goal

abbrev pub invariant-domains : goal.invariant-domains
invariant-domains l = is_constant_type (term_of l.rest) ≡ is_constant_type (term_of l.t)

abbrev pub decreases-domains : goal.decreases-domains
decreases-domains l = size-Lp l.rest
