use Rattle.lp_kernel.proofs.GoalLaws.{checked_has_type, found_has_type, found_once}
use Rattle.lp_kernel.proofs.laws.judgement_is_of_theory.Goals as goal

pub returns-clause-unique : goal.returns-clause-unique
returns-clause-unique c = λ sig t m n z h k. found_once sig z t m n h k

pub returns-clause-types : goal.returns-clause-types
returns-clause-types c = λ sig a w z h. checked_has_type sig z w a h

pub returns-clause-terms : goal.returns-clause-terms
returns-clause-terms c = λ sig t m w z h. found_has_type sig z w t m h
