use Rattle.std.proofs.Common.{◌≡◌, ◌++◌, None, Some, slice_get, subst, take}
use Rattle.step_check.specs.Freshness.{introduced, introduced_by}
use Rattle.step_check.specs.StalePlaces.{IsStalePlace}
use Rattle.step_check.specs.declared.verdict.Verdict.{Verdict}
use Rattle.step_check.proofs.FreshLaws.{kept_there, refused_there}
use Rattle.step_check.proofs.freshness.freshen_at.Goals as goal

pub returns-in-Some : goal.returns-in-Some
returns-in-Some c =
    let known = c.args.symbols.now ++ introduced_by (take c.args.place c.args.list.now) in
    let stales = subst (λ list. (verdict : Verdict) → slice_get list c.args.place ≡ Some verdict → IsStalePlace (c.args.symbols.now ++ introduced_by (take c.args.place list)) (introduced verdict) (Some c.in-Some.entry))
    c.as_slice.ensures c.in-Some.ensures in
    refused_there known c.args.list.now c.replace-verdict.new.self c.replace.new.self c.args.place c.in-Some.entry c.replace-verdict.result _ c.refused.result
    stales c.replace-verdict.ensures.item c.replace-verdict.ensures.list c.refused.ensures c.replace.ensures.list

pub returns-in_default : goal.returns-in_default
returns-in_default c =
    kept_there (c.args.symbols.now ++ introduced_by (take c.args.place c.args.list.now)) c.args.list.now c.args.place
    (subst (λ list. (verdict : Verdict) → slice_get list c.args.place ≡ Some verdict → IsStalePlace (c.args.symbols.now ++ introduced_by (take c.args.place list)) (introduced verdict) None)
    c.as_slice.ensures c.in_default.ensures)
