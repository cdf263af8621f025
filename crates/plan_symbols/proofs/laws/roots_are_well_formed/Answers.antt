use Rattle.plan_symbols.proofs.NoOthers.{roots_are_well_formed}
use Rattle.plan_symbols.proofs.laws.roots_are_well_formed.Goals as goal

pub returns : goal.returns
returns c = roots_are_well_formed
