-- The laws of a plan's symbols, as the crates above cite them.
use Rattle.plan_symbols.proofs.InstanceLaws.{instances_by, thins_by}
use Rattle.plan_symbols.proofs.NoOthers.{no_others}
use Rattle.plan_symbols.proofs.StepsOver.{steps_over}
use Rattle.plan_symbols.specs.Laws.{InstancesAreOver, ThinsAreOver}

pub instances_are_over : InstancesAreOver
instances_are_over = instances_by steps_over no_others

pub thins_are_over : ThinsAreOver
thins_are_over = thins_by steps_over
