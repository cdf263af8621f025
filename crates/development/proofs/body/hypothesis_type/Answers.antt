use Rattle.std.proofs.Common.{◌≡◌, ap, ◌∙◌}
use Rattle.std.proofs.lemmas.Result.{IfOk-weaker}
use Rattle.lp_term.specs.Connectives.{proof_of}
use Rattle.lp_term.specs.View.{term_of}
use Rattle.nd_term.proofs.FormulaViews.{closed_sentence}
use Rattle.nd_term.specs.Translation.{sentence}
use Rattle.nd_term.specs.Views.{theory_formula}
use Rattle.development.proofs.body.hypothesis_type.Goals as goal

pub returns : goal.returns
returns c =
    let f = c.args.hypothesis.now.formula in
    IfOk-weaker c.proof_type.result (λ t. term_of t ≡ proof_of (term_of c.in_ok-translate.field-0)) (λ t. term_of t ≡ proof_of (sentence (theory_formula f)))
    (λ t e. e ∙ ap proof_of (ap term_of c.in_ok-translate.ensures ∙ closed_sentence f c.requires))
    c.proof_type.ensures
