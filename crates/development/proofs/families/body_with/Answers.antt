use Rattle.std.proofs.Common.{◌≡◌, map, true, ap, ◌∙◌}
use Rattle.std.proofs.lemmas.Result.{IfOk-weaker}
use Rattle.assemble.specs.Fitting.{body_of, quantified_by}
use Rattle.development.proofs.FamilyLaws.{origin_is}
use Rattle.lp_term.specs.LambdaPi.{under_binder}
use Rattle.lp_term.specs.View.{term_of}
use Rattle.nd_term.specs.Eigenvariables.{origin_body}
use Rattle.nd_term.specs.Outputs.{ground_of, output}
use Rattle.nd_term.specs.Places.{eigenvariables}
use Rattle.nd_term.specs.Spots.{values_of}
use Rattle.nd_term.specs.Translation.{translated, translated_ground}
use Rattle.nd_term.specs.Views.{theory_formula}
use Rattle.nd_term.specs.declared.values.Value.{Value}
use Rattle.std.proofs.Common.{List}
use Rattle.development.proofs.families.body_with.Goals as goal

pub returns : goal.returns
returns c =
    let plan = c.args.given.now.plan.now in
    let x = eigenvariables c.args.there.now in
    let f = c.args.f.now in
    let terms = c.args.terms.now in
    let place = c.place_of-place.ensures in
    let values = c.in_ok-values.values.items in
    let same = c.in_ok-values.ensures ∙ ap (map ground_of) c.as_slice.ensures ∙ c.in_ok-outputs.ensures ∙ (λ k. map (output (place.symbols k) (place.order k)) terms) in
    IfOk-weaker c.body_at.result
    (λ t. term_of t ≡ translated (under_binder (λ n. translated_ground x (values_of c.as_slice-2.result.now n))) (theory_formula (body_of f)))
    (λ t. term_of t ≡ origin_body x (quantified_by plan.origins.list plan.order true f terms))
    (λ t e. e ∙ ap (λ (vs : List Value). translated (under_binder (λ n. translated_ground x (values_of vs n))) (theory_formula (body_of f))) c.as_slice-2.ensures.value
    ∙ origin_is plan x f terms values true same)
    c.body_at.ensures
