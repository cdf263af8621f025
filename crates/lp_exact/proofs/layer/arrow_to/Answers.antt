use Rattle.std.proofs.Common.{◌∙◌, ap}
use Rattle.std.proofs.lemmas.Result.{IfOk-weaker}
use Rattle.lp_term.specs.View.{term_of}
use Rattle.lp_term.proofs.ViewLaws.{view_arrow}
use Rattle.lp_exact.proofs.layer.arrow_to.Goals as goal

pub returns : goal.returns
returns c = IfOk-weaker c.arrow.result _ _ (λ r h. ap term_of h ∙ view_arrow c.args.a c.args.b.now) c.arrow.ensures
