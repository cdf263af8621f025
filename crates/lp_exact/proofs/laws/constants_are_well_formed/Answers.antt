use Rattle.lp_exact.proofs.ConstantLaws.{constants_fragment, constants_well_formed}
use Rattle.lp_exact.proofs.laws.constants_are_well_formed.Goals as goal

pub returns-clause-well_formed : goal.returns-clause-well_formed
returns-clause-well_formed c = λ m w. constants_well_formed w

pub returns-clause-fragment : goal.returns-clause-fragment
returns-clause-fragment c = λ m w. constants_fragment w
