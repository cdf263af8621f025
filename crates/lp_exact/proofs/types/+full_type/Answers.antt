use Rattle.std.proofs.Common.{◌≡◌, ◌<◌, ◌*◌, ap, subst, sym, ◌∙◌, arith}
use Rattle.std.proofs.lemmas.Result.{IfOk-weaker}
use Rattle.lp_term.specs.LambdaPi.{pi}
use Rattle.lp_term.specs.View.{term_of}
use Rattle.lp_exact.specs.Layers.{opened}
use Rattle.lp_exact.specs.LazyTypes.{full, type_weight}
use Rattle.lp_exact.proofs.TreeLaws.{stands_alone}
use Rattle.lp_exact.proofs.SameLaws.{opened_once, opened_once_less, rest_lighter, view_product}
use Rattle.lp_exact.specs.Products.{products}
use Rattle.lp_exact.proofs.LazyLaws.{full_pi}
use Rattle.lp_exact.proofs.ProductLaws.{products_last}
use Rattle.lp_exact.proofs.types.+full_type.Goals as goal

pub full_layers-full_open-requires : goal.full_layers-full_open-requires
full_layers-full_open-requires t c =
    let a = term_of c.args.t.now in
    let l = term_of c.shown.result.now in
    let h = opened_once_less a l (c.shown.ensures (opened a) c.in_ok-layer.ensures) in
    (subst (λ x. 3 * type_weight l < x) c.decreases h, tt)

pub full_layers-returns : goal.full_layers-returns
full_layers-returns t c =
    let a = term_of c.args.t.now in
    let l = term_of c.shown.result.now in
    IfOk-weaker c.full_open.result _ _ (λ r h. opened_once a l (term_of r) (c.shown.ensures (opened a) c.in_ok-layer.ensures) h) c.full_open.ensures

pub full_open-returns-in_default : goal.full_open-returns-in_default
full_open-returns-in_default t c =
    IfOk-weaker c.copy.result _ _ (λ r h. ap term_of h ∙ sym (stands_alone full c.args.t.now c.in_default.not-Pi)) c.copy.ensures

pub full_type-loop-rest-preserved : goal.full_type-loop-rest-preserved
full_type-loop-rest-preserved t c =
    let domains = c.loop-rest.domains in
    let domain = c.in_ok-domain.domain in
    let last = full (term_of c.get-rest.result.now) in
    let view = view_product c.loop-rest.rest.now c.in-Pi.domain c.in-Pi.body c.get.result.now c.get-rest.result.now c.in-Pi.is c.get.ensures c.get-rest.ensures in
    let first : products c.push.new.self last ≡ products domains (pi (term_of domain) last) = ap (λ l. products l last) c.in_ok-push.ensures.ok ∙ products_last domains domain last in
    let whole : pi (term_of domain) last ≡ full (term_of c.loop-rest.rest.now) =
    ap (λ x. pi x last) c.in_ok-domain.ensures ∙ sym (full_pi (term_of c.get.result.now) (term_of c.get-rest.result.now)) ∙ ap full (sym view) in
    let lighter = rest_lighter _ _ _ view in
    (first ∙ ap (products domains) whole ∙ c.loop-rest.invariant.0, omega (arith, lighter, c.loop-rest.invariant.1))
