use Rattle.step_skolem.proofs.OneImage.{image_is_one}
use Rattle.step_skolem.proofs.OneMap.{empty_leads_back, image_has_no_vacuous, map_is_one}
use Rattle.step_skolem.proofs.laws.images_are_one.Goals as goal

pub returns : goal.returns
returns c = record { map = map_is_one; image = image_is_one; no_vacuous = image_has_no_vacuous; empty = empty_leads_back }
