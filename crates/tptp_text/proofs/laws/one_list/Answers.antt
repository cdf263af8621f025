use Rattle.std.proofs.Common.{refl}
use Rattle.tptp_text.proofs.TextLaws.{one_list, spelled, spelled_is_read}
use Rattle.tptp_text.proofs.laws.one_list.Goals as goal

pub returns-clause-one : goal.returns-clause-one
returns-clause-one c = λ bytes items others h g. one_list h refl g refl

pub returns-clause-spelled : goal.returns-clause-spelled
returns-clause-spelled c = λ bytes items h. spelled bytes items h

pub returns-clause-read : goal.returns-clause-read
returns-clause-read c = λ bytes items h none. spelled_is_read bytes items h none
