use Rattle.std.proofs.Common.{◌≤◌, reverse}
use Rattle.dk_syntax.specs.TermTables.{IsTermTable}
use Rattle.ground_instances.specs.Notes.{AreFound, judged_given}
use Rattle.ground_instances.specs.States.{IsState, weight_in}
use Rattle.ground_instances.proofs.visiting.visited.Given as goal

abbrev pub invariant-tasks : goal.invariant-tasks
invariant-tasks l = record {
  found : AreFound (judged_given l.given) l.found;
  state : IsState (judged_given l.given) l.root l.state (reverse l.tasks.items);
  table : IsTermTable l.state.table;
  within : weight_in l.state ≤ l.limit;
}
