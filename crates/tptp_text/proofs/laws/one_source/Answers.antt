use Rattle.tptp_text.proofs.OpaqueLaws.{opaque_ends_once}
use Rattle.tptp_text.proofs.SourceLaws.{one_value}
use Rattle.tptp_text.proofs.laws.one_source.Goals as goal

pub returns-clause-place : goal.returns-clause-place
returns-clause-place c = λ in_parent before after other x s y u. opaque_ends_once x s y u

pub returns-clause-value : goal.returns-clause-value
returns-clause-value c = λ in_parent before after other one another x s y u. one_value x s y u
