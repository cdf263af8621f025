use Rattle.std.proofs.Common.{◌≡◌, reverse, Some, true, refl, sym, ap, subst, ◌∙◌}
use Rattle.assemble.specs.Fitting.{eigenvariable_at, quantified_by}
use Rattle.development.specs.Families.{IsFamily}
use Rattle.nd_term.specs.Eigenvariables.{origin_body}
use Rattle.nd_term.specs.Places.{eigenvariables}
use Rattle.skolem_order.specs.Origins.{spot_of}
use Rattle.skolem_order.specs.SignedForms.{signed_form}
use Rattle.skolem_order.specs.Spots.{found, spot}
use Rattle.skolem_order.specs.Walks.{spot_at, universals_of}
use Rattle.development.proofs.families.family_from.Goals as goal

pub returns : goal.returns
unfolding universals_of
returns c =
    let plan = c.args.given.now.plan.now in
    let x = eigenvariables c.args.there.now in
    let origin = c.args.source.now.origin.now in
    let around = reverse c.find.new.walk.around.items in
    let hit = c.in-Some.hit in
    let place = spot hit.positive hit.formula.now around in
    let there : spot_of origin ≡ Some place =
    ap (λ l. found (signed_form origin.leaf origin.sign) (reverse l) 0 0 origin.ex) (sym c.new.ensures.items) ∙ sym c.in_ok-hit.ensures.found ∙ ap (λ o. spot_at o around) c.in-Some.is in
    subst (λ s. IsFamily x (eigenvariable_at plan.origins.list plan.order c.args.source.now.args.now origin s) (record { positive = hit.positive; body = c.in_ok-body.body })) (sym there)
    (record {
      positive = refl;
      body = c.in_ok-body.ensures ∙ ap (λ l. origin_body x (quantified_by plan.origins.list plan.order true hit.formula.now l)) (c.as_slice.ensures.value ∙ c.in_ok-terms.ensures);
    })
