use Rattle.step_check.proofs.NumberedRows.{list_numbered}
use Rattle.step_check.proofs.clausal.listed.Goals as goal

pub returns-in-Ok-clause-numbered : goal.returns-in-Ok-clause-numbered
returns-in-Ok-clause-numbered c = list_numbered c.in-Ok.list c.args.form.now c.in-Ok.ensures.rows
