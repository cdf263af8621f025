use Rattle.std.proofs.Common.{◌∷◌, reverse, subst}
use Rattle.ground_instances.specs.Notes.{judged_given}
use Rattle.ground_instances.specs.States.{Appends, IsState}
use Rattle.ground_instances.specs.declared.state.Task.{Task}
use Rattle.ground_instances.proofs.StepLaws.{appended_state, begun_state}
use Rattle.ground_instances.proofs.visiting.do_task.Goals as goal

pub returns-in_ok-begin-in-Visit-clause-state : goal.returns-in_ok-begin-in-Visit-clause-state
returns-in_ok-begin-in-Visit-clause-state c = λ root is state.
    begun_state (judged_given c.args.given.now) c.requires.images root c.args.state.now c.begin.new.state c.in-Visit.named (reverse c.args.tasks.now.items) (reverse c.begin.new.tasks.items)
    is (subst (λ (t : Task). IsState (judged_given c.args.given.now) root c.args.state.now (t ∷ reverse c.args.tasks.now.items)) c.in-Visit.is state) c.in_ok-begin-in-Visit.ensures.begun

pub returns-in_ok-append-in-Append-clause-state : goal.returns-in_ok-append-in-Append-clause-state
returns-in_ok-append-in-Append-clause-state c = λ root is state.
    appended_state (judged_given c.args.given.now) c.requires.images root c.args.state.now c.append.new.state c.in-Append.named c.in-Append.needs (reverse c.args.tasks.now.items)
    is (subst (λ (t : Task). IsState (judged_given c.args.given.now) root c.args.state.now (t ∷ reverse c.args.tasks.now.items)) c.in-Append.is state)
    (subst (λ needs. Appends (judged_given c.args.given.now) c.args.state.now c.in-Append.named needs c.append.new.state) c.as_slice.ensures c.in_ok-append-in-Append.ensures)
