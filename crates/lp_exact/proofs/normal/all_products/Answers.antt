use Rattle.std.proofs.Common.{◌≡◌, ap, sym, ◌∙◌}
use Rattle.lp_term.specs.LambdaPi.{pi}
use Rattle.lp_term.specs.View.{term_of}
use Rattle.lp_term.proofs.ViewLaws.{view_Pi}
use Rattle.lp_exact.specs.Products.{products}
use Rattle.lp_exact.proofs.ProductLaws.{products_last}
use Rattle.lp_exact.proofs.normal.all_products.Goals as goal

pub loop-domain-preserved : goal.loop-domain-preserved
loop-domain-preserved c =
    let left = c.pop.new.self in
    let domain = c.in-Some.domain in
    let all = c.loop-domain.all in
    let view : term_of c.in_ok-all.all ≡ pi (term_of domain) (term_of all) = ap term_of c.in_ok-all.ensures ∙ view_Pi domain all in
    let i : products c.loop-domain.left (term_of all) ≡ products c.args.domains (term_of c.args.last) = c.loop-domain.invariant in
    ap (products left) view ∙ sym (products_last left domain (term_of all)) ∙ ap (λ l. products l (term_of all)) (sym c.in-Some.ensures) ∙ i
