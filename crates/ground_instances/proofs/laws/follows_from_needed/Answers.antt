use Rattle.ground_instances.proofs.Consequences.{all_follow, follows_from_needed}
use Rattle.ground_instances.proofs.laws.follows_from_needed.Goals as goal

pub returns-clause-one : goal.returns-clause-one
returns-clause-one c = follows_from_needed

pub returns-clause-list : goal.returns-clause-list
returns-clause-list c = all_follow
