use Rattle.std.proofs.Common.{refl}
use Rattle.assemble.proofs.FirstRowLaws.{row_right}
use Rattle.assemble.proofs.laws.first_row_is_right.Goals as goal

pub returns-clause-body : goal.returns-clause-body
returns-clause-body c = refl

pub returns-clause-right : goal.returns-clause-right
returns-clause-right c = row_right
