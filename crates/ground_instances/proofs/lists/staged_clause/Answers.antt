use Rattle.std.proofs.Common.{◌≡◌, ◌-◌, suc, Some, ap, ◌∙◌, subst, arith}
use Rattle.ground_instances.specs.Clauses.{imaged, IsMiddle, middle}
use Rattle.ground_instances.proofs.ClauseLaws.{match_as}
use Rattle.ground_instances.proofs.lists.staged_clause.Goals as goal

pub returns-in-Some-Chained : goal.returns-in-Some-Chained
returns-in-Some-Chained c =
    let has = c.in-Some-Chained.ensures ∙ ap Some c.in-Some-Chained.field-0-is in
    let stage : c.args.stage ≡ suc (c.args.stage - 1) = let l = c.requires in omega arith in
    match_as c.middle_clause.result (λ it h. middle c.in-Some-Chained.chains (c.args.stage - 1) has stage
    (subst (λ chains. IsMiddle chains c.args.clause (c.args.stage - 1) it.now) c.as_slice.ensures h)) c.middle_clause.ensures

pub returns-in-Some-Composes : goal.returns-in-Some-Composes
returns-in-Some-Composes c =
    let has = c.in-Some-Composes.ensures ∙ ap Some c.in-Some-Composes.field-0-is in
    match_as c.row_clause.result (λ it h. imaged c.in-Some-Composes.composed has c.if-stage-eq1.true h) c.row_clause.ensures
