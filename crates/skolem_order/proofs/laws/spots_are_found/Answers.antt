use Rattle.skolem_order.proofs.SpotLaws.{stands_found}
use Rattle.skolem_order.proofs.laws.spots_are_found.Goals as goal

pub returns : goal.returns
returns c = λ n h u e i x s. stands_found s
