use Rattle.std.proofs.Common.{◌-◌}
use Rattle.step_check.proofs.workers.+fn-judge_pieces-join+arg2+fn-judge_pieces-join+arg3+judge_pieces.Given as goal

abbrev pub decreases-join+arg2 : goal.decreases-join+arg2
decreases-join+arg2 g l = l.middle - l.low

abbrev pub decreases-join+arg3 : goal.decreases-join+arg3
decreases-join+arg3 g l = l.high - l.middle

abbrev pub decreases-judge_pieces : goal.decreases-judge_pieces
decreases-judge_pieces g l = l.high - l.low
