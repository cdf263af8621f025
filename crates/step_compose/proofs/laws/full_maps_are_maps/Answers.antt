use Rattle.step_compose.proofs.ImageCounts.{counts_are_one}
use Rattle.step_compose.proofs.FullImages.{full_is_image}
use Rattle.step_compose.proofs.laws.full_maps_are_maps.Goals as goal

pub returns : goal.returns
returns c = record { image = full_is_image; counts = counts_are_one }
