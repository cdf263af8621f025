use Rattle.expansion.proofs.TreeLaws.{choices_are_ground, ends_are_ground, ends_are_one, ends_are_well_formed}
use Rattle.expansion.proofs.laws.ends_are_one.Goals as goal

pub returns : goal.returns
returns c = record { one = ends_are_one; choices = choices_are_ground; ground = ends_are_ground; well_formed = ends_are_well_formed }
