use Rattle.lp_term.proofs.ConnectiveRules.{arrow_app, contradict_types, imp_app, imp_lam, neg_app, neg_lam, or_elim}
use Rattle.lp_term.proofs.QuantifierRules.{and_at, and_lam, bot_app}
use Rattle.lp_term.proofs.IntroductionRules.{iff_elim, iff_lam, left_lam, right_lam, top_lam}
use Rattle.lp_term.proofs.laws.connectives_have_rules.Goals as goal

pub returns-clause-falsity : goal.returns-clause-falsity
returns-clause-falsity c = λ sig g p t e h k. bot_app sig e h k

pub returns-clause-truth : goal.returns-clause-truth
returns-clause-truth c = λ sig g e. top_lam sig e g

pub returns-clause-negation_introduced : goal.returns-clause-negation_introduced
returns-clause-negation_introduced c = λ sig g p t e h k. neg_lam sig e h k

pub returns-clause-negation_used : goal.returns-clause-negation_used
returns-clause-negation_used c = λ sig g p t u e h k l. neg_app sig e h k l

pub returns-clause-implication_introduced : goal.returns-clause-implication_introduced
returns-clause-implication_introduced c = λ sig g p q t e h k l. imp_lam sig e h k l

pub returns-clause-implication_used : goal.returns-clause-implication_used
returns-clause-implication_used c = λ sig g p q t u e h k l m. imp_app sig e h k l m

pub returns-clause-conjunction_introduced : goal.returns-clause-conjunction_introduced
returns-clause-conjunction_introduced c = λ sig g p q t u e h k l m. and_lam sig e h k l m

pub returns-clause-conjunction_used : goal.returns-clause-conjunction_used
returns-clause-conjunction_used c = λ sig g p q d t k e hp hq hd ht hk. arrow_app sig e (and_at sig e hp hq hd ht) hk

pub returns-clause-disjunction_left : goal.returns-clause-disjunction_left
returns-clause-disjunction_left c = λ sig g p q t e h k l. left_lam sig e h k l

pub returns-clause-disjunction_right : goal.returns-clause-disjunction_right
returns-clause-disjunction_right c = λ sig g p q t e h k l. right_lam sig e h k l

pub returns-clause-disjunction_used : goal.returns-clause-disjunction_used
returns-clause-disjunction_used c = λ sig g p q d t l r e hp hq hd ht hl hr. or_elim sig e hp hq hd ht hl hr

pub returns-clause-equivalence_introduced : goal.returns-clause-equivalence_introduced
returns-clause-equivalence_introduced c = λ sig g p q t u e h k l m. iff_lam sig e h k l m

pub returns-clause-equivalence_used : goal.returns-clause-equivalence_used
returns-clause-equivalence_used c = λ sig g p q d t k e hp hq hd ht hk. iff_elim sig e hp hq hd ht hk

pub returns-clause-contradiction : goal.returns-clause-contradiction
returns-clause-contradiction c = λ sig g d t e h k. contradict_types sig e h k
