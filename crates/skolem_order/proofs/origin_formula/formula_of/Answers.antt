use Rattle.std.proofs.Common.{◌≡◌, reverse, Some, sym, ap, ◌∙◌}
use Rattle.expansion.specs.Rows.{term_at}
use Rattle.skolem_order.proofs.SiteLaws.{formula_is}
use Rattle.skolem_order.specs.Origins.{put_in, spot_of}
use Rattle.skolem_order.specs.SignedForms.{signed_form}
use Rattle.skolem_order.specs.Spots.{found, spot}
use Rattle.skolem_order.specs.Walks.{spot_at, universals_of}
use Rattle.skolem_order.proofs.origin_formula.formula_of.Goals as goal

pub returns : goal.returns
unfolding universals_of
returns c =
    let origin = c.args.source.now.origin.now in
    let around = reverse c.find.new.walk.around.items in
    let hit = c.in-Some.hit in
    let x = spot hit.positive hit.formula.now around in
    let there : spot_of origin ≡ Some x =
    ap (λ l. found (signed_form origin.leaf origin.sign) (reverse l) 0 0 origin.ex) (sym c.new.ensures.items) ∙ sym c.in_ok-hit.ensures.found ∙ ap (λ o. spot_at o around) c.in-Some.is in
    formula_is origin c.args.source.now.args.now x c.in_ok-terms.terms.items c.in_ok-put.field-0 there c.in_ok-terms.ensures
    (c.in_ok-put.ensures ∙ ap (λ l. put_in (term_at l) hit.formula.now 0) c.as_slice.ensures.value)
