use Rattle.extract.proofs.ParentLaws.{parents_named}
use Rattle.extract.proofs.laws.parents_are_named.Goals as goal

pub returns : goal.returns
returns c = parents_named
