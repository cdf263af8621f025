use Rattle.skolem_order.proofs.ProperLaws.{origin_proper}
use Rattle.skolem_order.proofs.laws.origin_formulas_have_no_any.Goals as goal

pub returns : goal.returns
returns c = origin_proper
