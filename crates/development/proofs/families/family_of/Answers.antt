use Rattle.std.proofs.Common.{sym, ap, subst, ◌∙◌}
use Rattle.std.proofs.lemmas.Result.{IfOk-weaker}
use Rattle.assemble.specs.Fitting.{eigenvariable_at, eigenvariable_of}
use Rattle.development.proofs.FamilyLaws.{eigenvariable_is}
use Rattle.development.specs.Families.{IsFamily}
use Rattle.nd_term.specs.Places.{eigenvariables}
use Rattle.skolem_order.specs.Origins.{origin_for, spot_of}
use Rattle.development.proofs.families.family_of.Goals as goal

pub returns-in-Some : goal.returns-in-Some
returns-in-Some c =
    let plan = c.args.given.now.plan.now in
    let os = plan.origins.list in
    let x = eigenvariables c.args.there.now in
    let origin = c.in-Some.origin.now in
    let args = c.in-App.args in
    let head = ap (λ l. origin_for l c.in-App.symbol) (sym c.as_slice.ensures) ∙ sym c.in-Some.ensures in
    IfOk-weaker c.family_from.result (IsFamily x (eigenvariable_at os plan.order args origin (spot_of origin))) (IsFamily x (eigenvariable_of os plan.order c.args.t.now))
    (λ one i. subst (λ o. IsFamily x o one) (sym (eigenvariable_is os plan.order c.in-App.symbol args c.args.t.now origin c.in-App.is head)) i)
    c.family_from.ensures
