use Rattle.step_check.proofs.ListLimits.{short_same}
use Rattle.step_check.proofs.SortedLaws.{representative_is_sorted}
use Rattle.step_check.specs.Notes.{case_given}
use Rattle.step_check.specs.Steps.{own_form}
use Rattle.step_check.proofs.clausal.list_at.Goals as goal

pub listed-requires : goal.listed-requires
listed-requires c =
    let case = case_given c.args.given.now in
    let r = c.representative_of-form.result.now in
    short_same (own_form case c.args.number) r (representative_is_sorted case c.args.number r c.representative_of-form.ensures) c.requires.short
