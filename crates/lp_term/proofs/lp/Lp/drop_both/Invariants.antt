use Rattle.std.proofs.Common.{◌+◌}
use Rattle.lp_term.specs.Weights.{weights}
use Rattle.lp_term.proofs.lp.Lp.drop_both.Given as goal

abbrev pub decreases-loop-one : goal.decreases-loop-one
decreases-loop-one l = (weights l.one).0 + (weights l.rest).1
