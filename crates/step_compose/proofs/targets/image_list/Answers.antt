use Rattle.step_compose.proofs.NumberedLists.{list_numbered}
use Rattle.step_compose.proofs.RelaxedFull.{relaxed_short}
use Rattle.step_compose.proofs.targets.image_list.Goals as goal

pub listed-requires : goal.listed-requires
listed-requires c = relaxed_short c.args.symbols.now c.args.from.now c.in_ok-image.image c.in_ok-image.ensures c.requires

pub returns-clause-numbered : goal.returns-clause-numbered
returns-clause-numbered c = list_numbered c.in_ok-list.list c.in_ok-image.image c.in_ok-list.ensures
