use Rattle.std.proofs.Common.{◌++◌, ◌∙◌, [], ◌∷◌, ap, sym}
use Rattle.ground_instances.specs.Instances.{clauses_in}
use Rattle.ground_instances.specs.Lists.{instances_of}
use Rattle.plan.proofs.TreeLists.{take_next}
use Rattle.plan.proofs.ordering.clauses_of.Goals as goal

pub loop-number-preserved : goal.loop-number-preserved
loop-number-preserved c =
    let all = clauses_in (instances_of c.args.instances.now) in
    c.in_ok-push.ensures.ok ∙ ap (λ clauses. clauses ++ c.in_ok-lits.lits ∷ []) c.loop-number.invariant
    ∙ sym (take_next all c.loop-number.number c.in_ok-lits.lits c.in_ok-lits.ensures)
