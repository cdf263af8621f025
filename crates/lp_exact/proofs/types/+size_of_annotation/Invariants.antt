use Rattle.std.proofs.Common.{◌≡◌, ◌+◌, ◌≤◌}
use Rattle.lp_term.specs.View.{term_of}
use Rattle.lp_term.specs.declared.lp.Lp.{size-Lp}
use Rattle.lp_exact.specs.NormalTypes.{annotation_size}
use Rattle.lp_exact.proofs.types.+size_of_annotation.Given as goal

abbrev pub invariant-loop-rest : goal.invariant-loop-rest
invariant-loop-rest l = (l.count + annotation_size (term_of l.rest) ≡ annotation_size (term_of l.t) + 1) × (size-Lp l.rest ≤ size-Lp l.t)

abbrev pub decreases-loop-rest : goal.decreases-loop-rest
decreases-loop-rest l = size-Lp l.rest
