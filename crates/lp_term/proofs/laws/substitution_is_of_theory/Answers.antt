use Rattle.lp_term.proofs.ReplaceLaws.{view_substituted}
use Rattle.lp_term.proofs.ViewLaws.{view_lifted, view_shift}
use Rattle.lp_term.proofs.laws.substitution_is_of_theory.Goals as goal

pub returns-clause-substitution : goal.returns-clause-substitution
returns-clause-substitution c = λ t by. view_substituted by t

pub returns-clause-lift : goal.returns-clause-lift
returns-clause-lift c = λ up bound t. view_lifted up t bound

pub returns-clause-shift : goal.returns-clause-shift
returns-clause-shift c = λ t. view_shift t
