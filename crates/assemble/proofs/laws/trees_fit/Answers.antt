use Rattle.assemble.proofs.FittingLaws.{trees_fit}
use Rattle.assemble.proofs.laws.trees_fit.Goals as goal

pub returns : goal.returns
returns c = trees_fit
