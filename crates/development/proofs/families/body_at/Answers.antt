use Rattle.std.proofs.Common.{◌≡◌, ap, sym, ◌∙◌}
use Rattle.std.proofs.lemmas.Result.{IfOk-weaker}
use Rattle.assemble.specs.Fitting.{body_of}
use Rattle.development.proofs.FamilyLaws.{body-All, body-Ex}
use Rattle.lp_term.specs.LambdaPi.{under_binder}
use Rattle.lp_term.specs.View.{term_of}
use Rattle.nd_term.specs.Frames.{said_under}
use Rattle.nd_term.specs.Places.{eigenvariables}
use Rattle.nd_term.specs.Spots.{frame_of, values_of}
use Rattle.nd_term.specs.Translation.{translated, translated_ground}
use Rattle.nd_term.specs.Views.{theory_formula}
use Rattle.development.proofs.families.body_at.Goals as goal

pub returns-in-All : goal.returns-in-All
unfolding said_under frame_of
returns-in-All c =
    let v = under_binder (λ n. translated_ground (eigenvariables c.args.place.now) (values_of c.args.values.now n)) in
    IfOk-weaker c.body.result (λ t. term_of t ≡ translated v (theory_formula c.get.result.now)) (λ t. term_of t ≡ translated v (theory_formula (body_of c.args.f.now)))
    (λ t e. e ∙ ap (λ b. translated v (theory_formula b)) (c.get.ensures ∙ sym (ap body_of c.in-All.is ∙ body-All c.in-All.a)))
    c.body.ensures

pub returns-in-Ex : goal.returns-in-Ex
unfolding said_under frame_of
returns-in-Ex c =
    let v = under_binder (λ n. translated_ground (eigenvariables c.args.place.now) (values_of c.args.values.now n)) in
    IfOk-weaker c.body-in-Ex.result (λ t. term_of t ≡ translated v (theory_formula c.get-in-Ex.result.now)) (λ t. term_of t ≡ translated v (theory_formula (body_of c.args.f.now)))
    (λ t e. e ∙ ap (λ b. translated v (theory_formula b)) (c.get-in-Ex.ensures ∙ sym (ap body_of c.in-Ex.is ∙ body-Ex c.in-Ex.a)))
    c.body-in-Ex.ensures
