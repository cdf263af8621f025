use Rattle.skolem_order.proofs.OrderLaws.{mention_precedes}
use Rattle.skolem_order.proofs.laws.mentions_precede.Goals as goal

pub returns : goal.returns
returns c = mention_precedes
