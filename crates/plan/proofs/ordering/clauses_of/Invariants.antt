use Rattle.std.proofs.Common.{◌≡◌, take}
use Rattle.ground_instances.specs.Instances.{clauses_in}
use Rattle.ground_instances.specs.Lists.{instances_of}
use Rattle.plan.proofs.ordering.clauses_of.Given as goal

-- the clauses so far
abbrev pub invariant-loop-number : goal.invariant-loop-number
invariant-loop-number l = l.clauses ≡ take l.number (clauses_in (instances_of l.instances))
