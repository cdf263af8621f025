use Rattle.skolem_order.proofs.PlaceLaws.{stands_earlier}
use Rattle.skolem_order.proofs.laws.mentions_stand_earlier.Goals as goal

pub returns : goal.returns
returns c = stands_earlier
