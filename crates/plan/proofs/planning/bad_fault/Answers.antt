use Rattle.std.proofs.Common.{◌≡◌, None, Some, subst}
use Rattle.std.proofs.lemmas.Result.{IfOk-weaker}
use Rattle.ground_instances.specs.Keys.{verdict_in}
use Rattle.plan.proofs.BadSteps.{bad_fault_is, bad_there, not_none}
use Rattle.plan.proofs.planning.bad_fault.Goals as goal
use Rattle.plan.specs.Plans.{IsBadFault, IsFaultOf}

pub unreachable-requires : goal.unreachable-requires
unreachable-requires c =
    not_none c.args.verdicts.now.list c.args.step c.requires (subst (λ list. verdict_in list c.args.step ≡ None) c.as_slice.ensures c.in-None.ensures)

pub fault_of-requires : goal.fault_of-requires
fault_of-requires c =
    bad_there c.args.verdicts.now.list c.args.step c.requires c.in-Some.verdict.now
    (subst (λ list. verdict_in list c.args.step ≡ Some c.in-Some.verdict.now) c.as_slice.ensures c.in-Some.ensures)

pub returns : goal.returns
returns c =
    let list = c.args.verdicts.now.list in
    let step = c.args.step in
    let found = c.in-Some.verdict.now in
    IfOk-weaker c.fault_of.result (IsFaultOf step found) (IsBadFault list)
    (bad_fault_is list step c.requires found (subst (λ l. verdict_in l step ≡ Some found) c.as_slice.ensures c.in-Some.ensures)) c.fault_of.ensures
