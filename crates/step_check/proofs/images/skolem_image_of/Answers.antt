use Rattle.std.proofs.Common.{List, sym, subst}
use Rattle.normal_form.specs.declared.form.Nf.{Nf}
use Rattle.step_check.proofs.LinkLaws.{skolem_leads, skolem_over, skolem_represents}
use Rattle.step_check.specs.Notes.{case_given}
use Rattle.step_check.specs.Representatives.{Represents}
use Rattle.step_skolem.specs.Images.{IsImage}
use Rattle.step_skolem.specs.declared.map.SkEntry.{SkEntry}
use Rattle.step_check.proofs.images.skolem_image_of.Goals as goal

pub returns-in-Some : goal.returns-in-Some
returns-in-Some c =
    skolem_over (case_given c.args.given.now) c.args.number c.args.own.now c.args.representative.now c.args.map.now.entries c.in-Some.field-0 c.requires.link c.in-Some.ensures.0 c.in-Some.ensures.1

pub returns-in_ok-image-in-None : goal.returns-in_ok-image-in-None
returns-in_ok-image-in-None c =
    let case = case_given c.args.given.now in let own = c.args.own.now in let above = c.args.representative.now in let entries = c.args.map.now.entries in
    let leads = skolem_leads case c.args.number own above entries c.requires.link in
    let moved = subst (λ (es : List SkEntry). IsImage above es leads.0) (sym c.in_ok-carried-in-None.ensures) leads.1 in
    subst (λ (x : Nf). Represents case c.args.number x) (sym (c.in_ok-image-in-None.ensures leads.0 moved))
    (skolem_represents case c.args.number own above leads.0 entries c.requires.link c.in-None.ensures leads.1)
