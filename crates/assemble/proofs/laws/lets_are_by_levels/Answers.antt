use Rattle.assemble.proofs.LevelLaws.{lets_levels}
use Rattle.assemble.proofs.laws.lets_are_by_levels.Goals as goal

pub returns : goal.returns
returns c = λ n p list d h. lets_levels list d h
