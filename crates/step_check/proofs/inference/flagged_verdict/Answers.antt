use Rattle.step_check.specs.Verdicts.{in_no_question}
use Rattle.step_check.proofs.inference.flagged_verdict.Goals as goal

pub returns-in-None : goal.returns-in-None
returns-in-None c = in_no_question c.in-None.ensures
