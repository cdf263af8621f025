use Rattle.nd_term.proofs.ConsumerTypes.{consumer_types}
use Rattle.nd_term.proofs.laws.consumers_are_typed.Goals as goal

pub returns : goal.returns
returns c = λ sig es g b f s tree d x w lv t e i o gs p h k. consumer_types sig e x w lv t i o gs p h k
