use Rattle.plan_symbols.proofs.KnownLaws.{instances_are_over, thins_are_over}
use Rattle.plan_symbols.proofs.laws.instances_are_over_known_symbols.Goals as goal

pub returns-clause-instances : goal.returns-clause-instances
returns-clause-instances c = instances_are_over

pub returns-clause-thins : goal.returns-clause-thins
returns-clause-thins c = thins_are_over
