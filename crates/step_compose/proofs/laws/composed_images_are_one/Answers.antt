use Rattle.step_compose.proofs.OneComposed.{composed_is_one}
use Rattle.step_compose.proofs.laws.composed_images_are_one.Goals as goal

pub returns : goal.returns
returns c = composed_is_one
