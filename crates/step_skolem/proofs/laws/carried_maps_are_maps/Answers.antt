use Rattle.step_skolem.proofs.Carried.{carried_is_image}
use Rattle.step_skolem.proofs.laws.carried_maps_are_maps.Goals as goal

pub returns : goal.returns
returns c = λ n r m entries same image. carried_is_image n r m entries same image
