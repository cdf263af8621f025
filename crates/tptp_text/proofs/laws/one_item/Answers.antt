use Rattle.tptp_text.proofs.ItemLaws.{one_item}
use Rattle.tptp_text.proofs.laws.one_item.Goals as goal

pub returns : goal.returns
returns c = λ tokens one another h g. one_item h g
