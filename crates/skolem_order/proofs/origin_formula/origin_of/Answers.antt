use Rattle.std.proofs.Common.{◌≡◌, sym, ap, ◌∙◌}
use Rattle.std.proofs.lemmas.Result.{IfOk-weaker}
use Rattle.skolem_order.proofs.SiteLaws.{origin_is}
use Rattle.skolem_order.specs.Origins.{formula_at, origin_for, origin_formula, spot_of}
use Rattle.skolem_order.proofs.origin_formula.origin_of.Goals as goal

pub returns-in-Some : goal.returns-in-Some
returns-in-Some c =
    let os = c.args.o.now.list in
    let origin = c.in-Some.origin.now in
    let args = c.in-App.args in
    IfOk-weaker c.formula_of.result (λ f. f ≡ formula_at origin args (spot_of origin)) (λ f. f ≡ origin_formula os c.args.s.now)
    (λ f e. e ∙ sym (origin_is os c.in-App.symbol args c.args.s.now origin c.in-App.is (ap (λ l. origin_for l c.in-App.symbol) (sym c.as_slice.ensures) ∙ sym c.in-Some.ensures)))
    c.formula_of.ensures
