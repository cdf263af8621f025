use Rattle.lp_term.proofs.QuantifierRules.{all_app}
use Rattle.lp_term.proofs.IntroductionRules.{all_intro, ex_elim, ex_lam}
use Rattle.lp_term.proofs.laws.quantifiers_have_rules.Goals as goal

pub returns-clause-universal_introduced : goal.returns-clause-universal_introduced
returns-clause-universal_introduced c = λ sig g f t e h k. all_intro sig e h k

pub returns-clause-universal_used : goal.returns-clause-universal_used
returns-clause-universal_used c = λ sig g b t u e h k l. all_app sig e h k l

pub returns-clause-existential_introduced : goal.returns-clause-existential_introduced
returns-clause-existential_introduced c = λ sig g b u t e h k l. ex_lam sig e h k l

pub returns-clause-existential_used : goal.returns-clause-existential_used
returns-clause-existential_used c = λ sig g f d t k e hf hd ht hk. ex_elim sig e hf hd ht hk
