use Rattle.plan.proofs.FitOrigins.{origins_are_fit}
use Rattle.plan.proofs.laws.origins_are_fit.Goals as goal

pub returns : goal.returns
returns c = origins_are_fit
