use Rattle.std.proofs.lemmas.Result.{IfOk-weaker}
use Rattle.lp_term.specs.View.{term_of}
use Rattle.lp_exact.proofs.NormalTypeLaws.{full_is_normal_type}
use Rattle.lp_exact.proofs.types.normal_type.Goals as goal

pub returns-clause-normal : goal.returns-clause-normal
returns-clause-normal c =
    IfOk-weaker c.full_type.result _ _ (λ r h. full_is_normal_type (term_of c.args.t.now) (term_of c.in_ok-lazy.lazy) (term_of r) c.in_ok-lazy.ensures h) c.full_type.ensures
