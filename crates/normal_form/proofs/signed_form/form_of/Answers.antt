use Rattle.std.proofs.Common.{◌≡◌, ap₂, reverse, ◌∙◌}
use Rattle.std.proofs.lemmas.Result.{IfOk-weaker}
use Rattle.normal_form.proofs.DraftLaws.{drafts_whole}
use Rattle.normal_form.specs.Drafts.{settled}
use Rattle.normal_form.specs.Normal.{normal_of}
use Rattle.normal_form.proofs.signed_form.form_of.Goals as goal

pub returns : goal.returns
returns c =
    let same : c.get.result.now ≡ c.in_ok-draft.draft = cc in
    IfOk-weaker c.build.result (λ nf. nf ≡ settled c.get.result.now c.args.sign (reverse c.new-around.result.items) 0) (λ nf. nf ≡ normal_of c.args.f.now c.args.sign)
    (λ nf built.
    built ∙ ap₂ (λ x around. settled x c.args.sign (reverse around) 0) same c.new-around.ensures.items
    ∙ drafts_whole c.args.f.now c.in_ok-draft.draft c.args.sign c.in_ok-draft.ensures.draft) c.build.ensures.form
