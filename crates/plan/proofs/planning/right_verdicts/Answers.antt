use Rattle.std.proofs.Common.{◌∙◌, Err, ap, sym, subst}
use Rattle.std.proofs.lemmas.Result.{err_from_is_err_and}
use Rattle.plan.proofs.Refusals.{bad_told}
use Rattle.plan.proofs.planning.right_verdicts.Goals as goal
use Rattle.plan.specs.Plans.{AreJudged, IsBadStage, IsVerdictStage}

pub returns-in_err-all_right : goal.returns-in_err-all_right
returns-in_err-all_right g c =
    let problem = c.args.problem.now in
    let trace = c.args.trace.now in
    let start = c.args.start.now in
    let list = c.in_ok-verdicts.verdicts.list in
    let end = err_from_is_err_and c.from_residual-in_err-all_right.result c.from_residual-in_err-all_right.ensures.1 in
    let judged : AreJudged problem trace start.graph start.root list = record { start = c.requires.start; verdicts = c.in_ok-verdicts.ensures } in
    subst (IsVerdictStage problem trace start.graph start.root) (sym end.1)
    (λ limit. bad_told problem trace limit start.graph start.root list judged end.0 (subst (IsBadStage list) (c.in_err-all_right.was ∙ ap Err (sym end.2)) c.all_right.ensures))

pub returns : goal.returns
returns g c = (
  record { start = c.requires.start; verdicts = c.in_ok-verdicts.ensures },
  subst (IsBadStage c.in_ok-verdicts.verdicts.list) c.in_ok-all_right.was c.all_right.ensures,
)
