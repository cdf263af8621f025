use Rattle.skolem_order.proofs.Results.{entries_are_covered}
use Rattle.skolem_order.proofs.laws.entries_are_covered.Goals as goal

pub returns : goal.returns
returns c = entries_are_covered
