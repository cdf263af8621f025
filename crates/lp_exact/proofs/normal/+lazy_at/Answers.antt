use Rattle.std.proofs.Common.{◌≡◌, ◌≤◌, ap, sym, ◌∙◌, arith}
use Rattle.lp_term.specs.LambdaPi.{pi}
use Rattle.lp_term.specs.View.{term_of}
use Rattle.lp_term.specs.declared.lp.Lp.{Lp, Pi, size-Lp, size_is-Lp, the_lemmas as of_lp}
use Rattle.lp_exact.specs.Normalisation.{normal_at}
use Rattle.lp_exact.specs.Products.{products}
use Rattle.lp_exact.proofs.ProductLaws.{products_last}
use Rattle.lp_exact.proofs.SameLaws.{view_product}
use Rattle.lp_exact.proofs.normal.+lazy_at.Goals as goal

part_below : (t a b r : Lp) → t ≡ Pi a b → r ≡ b → size-Lp r ≤ size-Lp t
part_below t a b r e h = let x = ap size-Lp e in let y = ap size-Lp h in let z = size_is-Lp (Pi a b) in grind (arith, x, y, z, of_lp)

pub loop-rest-preserved : goal.loop-rest-preserved
loop-rest-preserved t c =
    let k = c.args.rank in
    let domains = c.loop-rest.domains in
    let domain = c.in_ok-domain.domain in
    let last = normal_at k (term_of c.get-rest.result.now) in
    let view = view_product c.loop-rest.rest.now c.in-Pi.domain c.in-Pi.body c.get.result.now c.get-rest.result.now c.in-Pi.is c.get.ensures c.get-rest.ensures in
    let first : products c.push.new.self last ≡ products domains (pi (term_of domain) last) = ap (λ l. products l last) c.in_ok-push.ensures.ok ∙ products_last domains domain last in
    let whole : pi (term_of domain) last ≡ normal_at k (term_of c.loop-rest.rest.now) = ap (λ x. pi x last) c.in_ok-domain.ensures ∙ ap (normal_at k) (sym view) in
    let below : size-Lp c.get-rest.result.now ≤ size-Lp c.loop-rest.rest.now = part_below c.loop-rest.rest.now c.in-Pi.domain c.in-Pi.body c.get-rest.result.now c.in-Pi.is c.get-rest.ensures in
    (first ∙ ap (products domains) whole ∙ c.loop-rest.invariant.0, omega (arith, below, c.loop-rest.invariant.1))
