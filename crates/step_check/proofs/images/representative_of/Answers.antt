use Rattle.std.proofs.Common.{sym, subst}
use Rattle.normal_form.specs.declared.form.Nf.{Nf}
use Rattle.step_check.specs.Notes.{case_given, IsImageOf}
use Rattle.step_check.specs.Representatives.{Represents}
use Rattle.step_check.specs.declared.notes.Representative.{Representative}
use Rattle.step_check.proofs.images.representative_of.Goals as goal

pub returns-in-Image : goal.returns-in-Image
returns-in-Image c =
    subst (λ (x : Representative). IsImageOf (case_given c.args.given.now) c.args.number x) c.in-Image.is (c.requires.images c.args.number c.known.result.now c.known.ensures)

pub returns-in-Own : goal.returns-in-Own
returns-in-Own c =
    let case = case_given c.args.given.now in
    subst (λ (x : Nf). Represents case c.args.number x) (sym c.own_form_of.ensures)
    (subst (λ (x : Representative). IsImageOf case c.args.number x) c.in-Own.is (c.requires.images c.args.number c.known.result.now c.known.ensures))
