use Rattle.std.proofs.Common.{◌≡◌, ◌∙◌, sym, ap}
use Rattle.std.proofs.lemmas.Result.{IfOk-weaker}
use Rattle.lp_term.specs.LambdaPi.{lam}
use Rattle.lp_term.specs.View.{term_of}
use Rattle.lp_term.proofs.ViewLaws.{view_Lam}
use Rattle.lp_exact.proofs.PlaceLaws.{apply_placed}
use Rattle.lp_exact.proofs.normal.+put_reduced.Goals as goal

pub apply_reduced-returns-in-Lam : goal.apply_reduced-returns-in-Lam
apply_reduced-returns-in-Lam t c =
    let a = term_of c.in-Lam.field-0 in
    let b = term_of c.get.result.now in
    let v = term_of c.args.argument in
    let e : term_of c.args.function ≡ lam a b = ap term_of c.in-Lam.is ∙ view_Lam c.in-Lam.field-0 c.in-Lam.body ∙ ap (λ x. lam a (term_of x)) (sym c.get.ensures) in
    IfOk-weaker c.put_reduced.result _ _ (λ r h. apply_placed c.args.rank (term_of c.args.function) a b v (term_of r) c.if-rank-eq0.false e h) c.put_reduced.ensures
