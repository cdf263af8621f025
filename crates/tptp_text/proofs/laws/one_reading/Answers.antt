use Rattle.tptp_text.proofs.TextLaws.{one_reading, text_at, text_sound, text_tells}
use Rattle.tptp_text.proofs.laws.one_reading.Goals as goal

pub returns-clause-one : goal.returns-clause-one
returns-clause-one c = λ bytes one another h g told tells. one_reading bytes one another h g told tells

pub returns-clause-some : goal.returns-clause-some
returns-clause-some c = λ bytes. (text_at bytes, text_sound bytes, text_tells bytes)
