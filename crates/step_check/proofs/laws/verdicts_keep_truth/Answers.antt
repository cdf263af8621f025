use Rattle.step_check.proofs.EmptyMaps.{empty_map_keeps_meaning}
use Rattle.step_check.proofs.TrueSteps.{clauses_keep_truth}
use Rattle.step_check.proofs.laws.verdicts_keep_truth.Goals as goal

pub returns : goal.returns
returns c = record { clauses = clauses_keep_truth; structural = empty_map_keeps_meaning }
