use Rattle.std.proofs.Common.{sym, subst}
use Rattle.normal_form.specs.declared.form.Nf.{Nf}
use Rattle.step_check.proofs.LinkLaws.{same_image, same_over}
use Rattle.step_check.specs.Notes.{case_given}
use Rattle.step_check.specs.Representatives.{Represents}
use Rattle.step_check.proofs.images.same_image.Goals as goal

pub returns-in-Some : goal.returns-in-Some
returns-in-Some c =
    same_over (case_given c.args.given.now) c.args.number c.args.representative.now c.in-Some.field-0 c.requires.link c.in-Some.ensures.0 c.in-Some.ensures.1

pub returns-in_ok-image-in-None : goal.returns-in_ok-image-in-None
returns-in_ok-image-in-None c =
    let case = case_given c.args.given.now in
    subst (λ (x : Nf). Represents case c.args.number x) (sym c.in_ok-image-in-None.ensures)
    (same_image case c.args.number c.args.representative.now c.requires.link c.in-None.ensures)
