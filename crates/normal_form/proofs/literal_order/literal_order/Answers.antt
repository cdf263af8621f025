use Rattle.std.proofs.Common.{arith}
use Rattle.std.proofs.lemmas.Grind.{common_steps}
use Rattle.normal_form.proofs.Orders.{compared_is}
use Rattle.normal_form.proofs.literal_order.literal_order.Goals as goal

pub returns-in-Equal-symbol_order : goal.returns-in-Equal-symbol_order
returns-in-Equal-symbol_order c = grind (arith, common_steps, compared_is)
