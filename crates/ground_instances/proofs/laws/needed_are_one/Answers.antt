use Rattle.ground_instances.proofs.OneVisit.{one_needs, one_visit}
use Rattle.ground_instances.proofs.laws.needed_are_one.Goals as goal

pub returns-clause-needs : goal.returns-clause-needs
returns-clause-needs c = λ judged key one other h k. one_needs judged h other k

pub returns-clause-needed : goal.returns-clause-needed
returns-clause-needed c = λ judged root one other h k. one_visit judged h other k
