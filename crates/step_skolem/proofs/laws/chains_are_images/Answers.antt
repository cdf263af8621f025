use Rattle.step_skolem.proofs.Chains.{chain_is_image}
use Rattle.step_skolem.proofs.laws.chains_are_images.Goals as goal

pub returns : goal.returns
returns c = chain_is_image
