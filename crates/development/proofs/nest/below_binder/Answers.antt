use Rattle.std.proofs.Common.{◌≡◌, suc, ap, ◌∙◌}
use Rattle.std.proofs.lemmas.Result.{IfOk-weaker}
use Rattle.lp_term.specs.LambdaPi.{rename, under_renaming}
use Rattle.lp_term.specs.Substitution.{lifted}
use Rattle.lp_term.specs.View.{term_of}
use Rattle.development.proofs.UnderSteps.{view_under}
use Rattle.development.proofs.nest.below_binder.Goals as goal

pub returns : goal.returns
returns c =
    let t = c.args.t.now in
    IfOk-weaker c.lift.result (λ r. r ≡ lifted 1 t 1) (λ r. term_of r ≡ rename (under_renaming (λ k. suc k)) (term_of t)) (λ r e. ap term_of e ∙ view_under t) c.lift.ensures
