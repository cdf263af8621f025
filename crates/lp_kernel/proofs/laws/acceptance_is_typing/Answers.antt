use Rattle.lp_kernel.proofs.AcceptanceLaws.{accepted, accepted_typed, no_failure_of, typed_accepted}
use Rattle.lp_kernel.proofs.laws.acceptance_is_typing.Goals as goal

pub returns-clause-decided : goal.returns-clause-decided
returns-clause-decided c = λ commands. (accepted commands, no_failure_of commands)

pub returns-clause-typed : goal.returns-clause-typed
returns-clause-typed c = λ commands h. accepted_typed commands h

pub returns-clause-accepted : goal.returns-clause-accepted
returns-clause-accepted c = λ commands e h k. typed_accepted commands e h k
