use Rattle.std.proofs.lemmas.Result.{IfOk-weaker}
use Rattle.lp_term.specs.View.{term_of}
use Rattle.lp_exact.proofs.NormalTypeLaws.{same_is_conversion}
use Rattle.lp_exact.proofs.types.same_type.Goals as goal

pub returns-clause-conversion : goal.returns-clause-conversion
returns-clause-conversion c =
    IfOk-weaker c.same_lazy.result _ _ (λ same h. same_is_conversion (term_of c.args.a.now) (term_of c.args.b.now) (term_of c.in_ok-left.left) (term_of c.in_ok-right.right) same c.in_ok-left.ensures c.in_ok-right.ensures h) c.same_lazy.ensures
