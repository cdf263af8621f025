use Rattle.plan_symbols.proofs.StepsOver.{steps_over}
use Rattle.plan_symbols.proofs.laws.steps_are_over_known_symbols.Goals as goal

pub returns : goal.returns
returns c = steps_over
