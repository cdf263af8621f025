use Rattle.std.proofs.Common.{◌∙◌, ap}
use Rattle.std.proofs.lemmas.Result.{IfOk-weaker}
use Rattle.lp_term.specs.View.{term_of}
use Rattle.lp_term.proofs.ViewLaws.{view_shift}
use Rattle.lp_exact.proofs.layer.raised.Goals as goal

pub returns : goal.returns
returns c = IfOk-weaker c.lift.result _ _ (λ r h. ap term_of h ∙ view_shift c.args.t.now) c.lift.ensures
