use Rattle.skolem_order.proofs.ClosedLaws.{origin_closed}
use Rattle.skolem_order.proofs.laws.origin_formulas_are_closed.Goals as goal

pub returns : goal.returns
returns c = origin_closed
