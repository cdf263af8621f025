use Rattle.std.proofs.Common.{◌<◌, ◌≤◌, length, reverse, MatchBool, refl, subst, sym, arith}
use Rattle.dk_syntax.specs.TermTables.{IsTermTable}
use Rattle.ground_instances.specs.Notes.{judged_given}
use Rattle.ground_instances.specs.Rows.{instances_by}
use Rattle.ground_instances.specs.States.{AreTasksBelow, IsState, tasks_by, weight_in}
use Rattle.ground_instances.proofs.OverLaws.{over_weight}
use Rattle.ground_instances.proofs.StepLaws.{blank_weight, first_state, taken_first}
use Rattle.ground_instances.proofs.TableLaws.{blank_table}
use Rattle.ground_instances.proofs.visiting.visited.Goals as goal

pub tasks-init : goal.tasks-init
tasks-init c = record {
  found = c.in_ok-tasks.ensures.found;
  state = first_state (judged_given c.args.given.now) c.args.root c.in_ok-state.state (reverse c.in_ok-tasks.tasks.items) c.in_ok-state.ensures c.in_ok-tasks.ensures.tasks;
  table = subst IsTermTable (sym c.in_ok-state.ensures.table) blank_table;
  within = (let e = blank_weight c.in_ok-state.state c.in_ok-state.ensures in omega arith);
}

pub do_task-requires-clause-below : goal.do_task-requires-clause-below
do_task-requires-clause-below c =
    let top = taken_first c.tasks.tasks.items c.pop.new.self.items c.in-Some.task c.in-Some.ensures.items in
    let below = subst (AreTasksBelow (length c.tasks.state.table)) top c.tasks.invariant.state.below in
    below 0 c.in-Some.task (omega arith)

pub weighs_over-requires : goal.weighs_over-requires
weighs_over-requires c =
    let top = taken_first c.tasks.tasks.items c.pop.new.self.items c.in-Some.task c.in-Some.ensures.items in
    let after = c.in_ok-do_task.ensures.state c.args.root c.tasks.invariant.table
    (subst (IsState (judged_given c.args.given.now) c.args.root c.tasks.state) top c.tasks.invariant.state) in
    after.kept

pub returns-then-branch-clause-fault : goal.returns-then-branch-clause-fault
returns-then-branch-clause-fault c =
    let judged = judged_given c.args.given.now in let state = c.do_task.new.state in
    let top = taken_first c.tasks.tasks.items c.pop.new.self.items c.in-Some.task c.in-Some.ensures.items in
    let after = c.in_ok-do_task.ensures.state c.args.root c.tasks.invariant.table (subst (IsState judged c.args.root c.tasks.state) top c.tasks.invariant.state) in (
      refl,
      over_weight judged c.requires c.args.root state.table (instances_by state.table state.rows.items) (tasks_by state.table (reverse c.do_task.new.tasks.items)) after.pulled
          c.args.limit c.weighs_over.ensures.table
          (subst (λ b. MatchBool b (c.args.limit < weight_in state) (weight_in state ≤ c.args.limit)) c.if-branch.true c.in_ok-weighs_over.ensures.over),
    )

pub tasks-preserved : goal.tasks-preserved
tasks-preserved c =
    let judged = judged_given c.args.given.now in let state = c.do_task.new.state in
    let top = taken_first c.tasks.tasks.items c.pop.new.self.items c.in-Some.task c.in-Some.ensures.items in
    record {
      found = c.in_ok-do_task.ensures.found;
      state = c.in_ok-do_task.ensures.state c.args.root c.tasks.invariant.table (subst (IsState judged c.args.root c.tasks.state) top c.tasks.invariant.state);
      table = c.weighs_over.ensures.table;
      within = subst (λ b. MatchBool b (c.args.limit < weight_in state) (weight_in state ≤ c.args.limit)) c.if-branch.false c.in_ok-weighs_over.ensures.over;
    }
