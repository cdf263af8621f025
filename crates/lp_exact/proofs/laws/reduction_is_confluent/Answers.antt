use Rattle.lp_exact.proofs.ConfluenceLaws.{parallels_convert}
use Rattle.lp_exact.proofs.NormalFormLaws.{normal_form_unique, reduces_parallels, reducts_meet}
use Rattle.lp_exact.proofs.StepLaws.{common_reduct}
use Rattle.lp_exact.proofs.laws.reduction_is_confluent.Goals as goal

pub returns-clause-confluence : goal.returns-clause-confluence
returns-clause-confluence c = λ t u v h k. reducts_meet h k

pub returns-clause-church_rosser : goal.returns-clause-church_rosser
returns-clause-church_rosser c = λ t u h. common_reduct h

pub returns-clause-reducts : goal.returns-clause-reducts
returns-clause-reducts c = λ t u h. parallels_convert (reduces_parallels h)

pub returns-clause-normal_forms : goal.returns-clause-normal_forms
returns-clause-normal_forms c = λ a b m n e h k. normal_form_unique e h k
