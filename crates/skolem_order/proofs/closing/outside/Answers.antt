use Rattle.std.proofs.Common.{◌≡◌, map, sym, ◌∙◌}
use Rattle.std.proofs.lemmas.Result.{IfOk-weaker}
use Rattle.expansion.specs.Choices.{skolem_term}
use Rattle.skolem_order.proofs.SiteLaws.{outside_at}
use Rattle.skolem_order.specs.Origins.{spot_of, universals_by}
use Rattle.skolem_order.specs.Sites.{site_at, terms_outside}
use Rattle.skolem_order.specs.Walks.{universals_of}
use Rattle.skolem_order.proofs.closing.outside.Goals as goal

pub returns-in-Some : goal.returns-in-Some
unfolding universals_of
returns-in-Some c =
    let os = c.args.origins.now in
    let origin = c.in-Some.origin.now in
    let args = c.in-App.args in
    IfOk-weaker c.outer_terms.result (λ terms. terms ≡ map (skolem_term (universals_by origin args) origin.map.entries) (site_at (spot_of origin)).outer)
    (λ terms. terms ≡ terms_outside os c.args.t.now)
    (λ terms e. e ∙ sym (outside_at os c.in-App.symbol args c.args.t.now origin c.in-App.is (sym c.in-Some.ensures))) c.outer_terms.ensures
