use Rattle.skolem_order.proofs.MeetingLaws.{met_formula, trees_meet_origins}
use Rattle.skolem_order.proofs.laws.trees_meet_origins.Goals as goal

pub returns : goal.returns
returns c = record { trees = trees_meet_origins; formulas = met_formula }
