use Rattle.std.proofs.Common.{◌∙◌, sym}
use Rattle.step_check.proofs.ListLimits.{noted_existential, noted_plain}
use Rattle.step_check.proofs.own.own_of_form.Goals as goal
use Rattle.step_check.proofs.own.own_of_form.Goals.{then-exists, else-exists}

pub returns : goal.returns
returns c = elim c.if-exists.branch [
  | then-exists w ↦ noted_existential c.args.form c.has_exists-exists.result c.if-exists.limit c.requires c.has_exists-exists.ensures w.if-exists.true w.limit-is
  | else-exists w ↦
      noted_plain c.args.form c.has_exists-exists.result c.if-exists.limit c.requires c.has_exists-exists.ensures w.if-exists.false (w.limit-is ∙ w.full_limit_of-limit.ensures)
]
