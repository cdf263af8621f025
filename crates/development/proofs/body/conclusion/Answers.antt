use Rattle.std.proofs.Common.{◌≡◌, sym, ap, subst, ◌∙◌}
use Rattle.std.proofs.lemmas.Result.{IfOk-weaker}
use Rattle.assemble.specs.Problem.{theory_conclusion}
use Rattle.development.proofs.BodyLaws.{first_every}
use Rattle.dk_syntax.specs.Lists.{Every}
use Rattle.dk_syntax.specs.Problems.{formula_of}
use Rattle.dk_syntax.specs.WellFormed.{IsClosed}
use Rattle.lp_term.specs.Translation.{translated}
use Rattle.lp_term.specs.View.{term_of}
use Rattle.nd_term.proofs.FormulaViews.{closed_sentence}
use Rattle.nd_term.specs.Translation.{sentence}
use Rattle.development.proofs.body.conclusion.Goals as goal

pub returns-in-Some : goal.returns-in-Some
returns-in-Some c =
    let f = c.in-Some.named.formula in
    let closed : IsClosed f = first_every (subst (λ o. Every IsClosed (formula_of o)) c.in-Some.is c.requires) in
    IfOk-weaker c.translate.result (λ t. t ≡ translated f) (λ t. term_of t ≡ sentence (theory_conclusion c.args.conjecture.now))
    (λ t e. ap term_of e ∙ closed_sentence f closed ∙ ap (λ o. sentence (theory_conclusion o)) (sym c.in-Some.is))
    c.translate.ensures
