use Rattle.std.proofs.Common.{◌∙◌}
use Rattle.normal_form.proofs.TruthLaws.{same_truth}
use Rattle.normal_form.proofs.signed_form.normal.Goals as goal

pub returns-in-Ok-form_of-clause-truth : goal.returns-in-Ok-form_of-clause-truth
returns-in-Ok-form_of-clause-truth c =
    same_truth c.args.f.now c.args.sign c.into_inner.result (c.into_inner.ensures ∙ c.in-Ok-form_of.ensures)
