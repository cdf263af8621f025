use Rattle.plan.proofs.OnePull.{pull_answers_are_one}
use Rattle.plan.proofs.laws.pull_answers_are_one.Goals as goal

pub returns : goal.returns
returns c = pull_answers_are_one
