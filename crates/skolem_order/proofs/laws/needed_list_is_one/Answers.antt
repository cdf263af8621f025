use Rattle.skolem_order.proofs.OneList.{one_list}
use Rattle.skolem_order.proofs.laws.needed_list_is_one.Goals as goal

pub returns : goal.returns
returns c = one_list
