use Rattle.skolem_order.proofs.LongerMaps.{longer_changes_nothing}
use Rattle.skolem_order.proofs.laws.longer_maps_change_nothing.Goals as goal

pub returns : goal.returns
returns c = longer_changes_nothing
