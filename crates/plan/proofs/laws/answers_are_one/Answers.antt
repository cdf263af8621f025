use Rattle.plan.proofs.OneAnswer.{maps_are_one, origins_are_one, thin_is_one}
use Rattle.plan.proofs.laws.answers_are_one.Goals as goal

pub returns : goal.returns
returns c = record { maps = maps_are_one; origins = origins_are_one; thins = thin_is_one }
