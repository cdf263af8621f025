use Rattle.std.proofs.Common.{◌∙◌, sym}
use Rattle.step_check.specs.Verdicts as is
use Rattle.step_check.proofs.judging.verdict_of.Goals as goal

pub returns-in-Some : goal.returns-in-Some
returns-in-Some c = is.over c.args.number c.in-Some.limit (sym c.limit_of.ensures ∙ c.in-Some.is)
