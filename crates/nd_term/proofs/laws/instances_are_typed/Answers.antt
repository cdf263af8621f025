use Rattle.nd_term.proofs.InstanceTypes.{resolution_types, subsumption_types}
use Rattle.nd_term.proofs.laws.instances_are_typed.Goals as goal

pub returns-clause-subsumption : goal.returns-clause-subsumption
returns-clause-subsumption c = λ sig g x d m lv ks t e h k i. subsumption_types sig e h k i

pub returns-clause-resolution : goal.returns-clause-resolution
returns-clause-resolution c = λ sig g x d m n lv ks ls t u a e h o ht hu k i j. resolution_types sig e x h o ht hu k i j
