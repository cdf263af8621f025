-- What stands around consumers: no more than the views of terms.
use Rattle.nd_term.proofs.BuildSteps.{build_steps}

pub ruleset arm_steps = (build_steps)
