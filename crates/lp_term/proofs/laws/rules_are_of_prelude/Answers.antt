use Rattle.lp_term.proofs.PreludeLaws.{in_rewrites, rewrites_in}
use Rattle.lp_term.proofs.laws.rules_are_of_prelude.Goals as goal

pub returns : goal.returns
returns c = record { rules = λ t u. (λ h. rewrites_in h, λ h. in_rewrites h) }
