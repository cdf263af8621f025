use Rattle.derivation_graph.proofs.OrderExists as law
use Rattle.derivation_graph.proofs.laws.order_exists.Goals as goal

pub returns : goal.returns
returns c = law.order_exists
