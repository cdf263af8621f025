use Rattle.plan.proofs.Existence.{composed_is_over_leaf, leaf_gives_composed_map, leaf_gives_map, structural_is_over_leaf}
use Rattle.plan.proofs.laws.maps_are_over_leaves.Goals as goal

pub returns : goal.returns
returns c = record { structural = structural_is_over_leaf; composed = composed_is_over_leaf; leaf = leaf_gives_map; leaf_composed = leaf_gives_composed_map }
