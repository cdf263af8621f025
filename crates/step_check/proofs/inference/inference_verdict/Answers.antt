use Rattle.std.proofs.lemmas.Result.{IfOk-weaker}
use Rattle.step_check.proofs.VerdictLaws.{misfit_verdict}
use Rattle.step_check.specs.Notes.{case_given}
use Rattle.step_check.specs.Verdicts.{HasVerdict, IsInferenceVerdict}
use Rattle.step_check.specs.Verdicts as is
use Rattle.step_check.proofs.inference.inference_verdict.Goals as goal

pub returns-in-Some-misfit : goal.returns-in-Some-misfit
returns-in-Some-misfit c =
    misfit_verdict (case_given c.args.given.now) c.args.number c.args.cth c.args.esa c.in-Some-misfit.reason c.in_default.ensures c.requires.derived
    c.in-Some-misfit.ensures

pub returns : goal.returns
returns c =
    let case = case_given c.args.given.now in
    IfOk-weaker c.fit_verdict.result (λ verdict. IsInferenceVerdict case c.args.number c.args.cth c.args.esa verdict) (λ verdict. HasVerdict case c.args.number verdict)
    (λ verdict h. is.of_inference c.args.number c.args.cth c.args.esa verdict c.in_default.ensures c.requires.derived h)
    c.fit_verdict.ensures
