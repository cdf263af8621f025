use Rattle.lp_term.specs.View.{term_of}
use Rattle.lp_exact.specs.Placing.{cost_apply, cost_put}
use Rattle.lp_exact.proofs.normal.+put_reduced.Given as goal

abbrev pub decreases-apply_reduced : goal.decreases-apply_reduced
decreases-apply_reduced l = cost_apply l.rank (term_of l.function) (term_of l.argument)

abbrev pub decreases-put_reduced : goal.decreases-put_reduced
decreases-put_reduced l = cost_put l.rank (term_of l.by.now) (term_of l.t.now) l.place
