use Rattle.plan_symbols.proofs.KnownLaws.{instances_are_over, thins_are_over}
use Rattle.plan_typing.proofs.EigenvariableTurns.{eigenvariables_turn}
use Rattle.plan_typing.proofs.laws.eigenvariables_are_in_turn.Goals as goal

pub returns : goal.returns
returns c = eigenvariables_turn instances_are_over thins_are_over
