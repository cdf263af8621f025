use Rattle.std.proofs.Common.{◌≡◌, ◌≤◌, max}
use Rattle.lp_term.specs.View.{term_of}
use Rattle.lp_term.specs.declared.lp.Lp.{size-Lp}
use Rattle.lp_exact.specs.NormalTypes.{annotation_rank}
use Rattle.lp_exact.proofs.types.+rank_of.Given as goal

abbrev pub invariant-loop-rest : goal.invariant-loop-rest
invariant-loop-rest l = (max l.rank (annotation_rank (term_of l.rest)) ≡ annotation_rank (term_of l.t)) × (size-Lp l.rest ≤ size-Lp l.t)

abbrev pub decreases-loop-rest : goal.decreases-loop-rest
decreases-loop-rest l = size-Lp l.rest
