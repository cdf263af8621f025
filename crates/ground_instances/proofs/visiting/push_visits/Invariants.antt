use Rattle.std.proofs.Common.{◌≡◌, ◌++◌, map, reverse, vec_len}
use Rattle.ground_instances.specs.declared.state.Task.TheVariants.{Visit}
use Rattle.ground_instances.proofs.visiting.push_visits.Given as goal

-- with visits of the names that are left the tasks are those in the end
abbrev pub invariant-loop-named : goal.invariant-loop-named
invariant-loop-named l = map Visit l.names.items ++ reverse l.tasks.items ≡ map Visit l.initial.names.items ++ reverse l.initial.tasks.items

abbrev pub decreases-loop-named : goal.decreases-loop-named
decreases-loop-named l = vec_len l.names
