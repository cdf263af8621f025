use Rattle.step_check.proofs.OneVerdict.{one_verdict, one_verdict_list}
use Rattle.step_check.proofs.laws.verdicts_are_one.Goals as goal

pub returns : goal.returns
returns c = record { verdict = λ case i one other h k. one_verdict case h other k; list = one_verdict_list }
