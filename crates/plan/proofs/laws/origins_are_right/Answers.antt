use Rattle.plan.proofs.OriginLaws.{maps_are_sourced, origins_are_right}
use Rattle.plan.proofs.laws.origins_are_right.Goals as goal

pub returns : goal.returns
returns c = record { right = origins_are_right; sourced = maps_are_sourced }
