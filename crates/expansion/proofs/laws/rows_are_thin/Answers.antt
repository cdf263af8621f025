use Rattle.expansion.proofs.RowEnds.{rows_are_thin}
use Rattle.expansion.proofs.laws.rows_are_thin.Goals as goal

pub returns : goal.returns
returns c = rows_are_thin
