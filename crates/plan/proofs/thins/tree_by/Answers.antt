use Rattle.std.proofs.Common.{◌∙◌, Some, ap}
use Rattle.plan.proofs.thins.tree_by.Goals as goal

pub image_tree-requires-clause-here : goal.image_tree-requires-clause-here
image_tree-requires-clause-here c = c.requires.here ∙ ap Some c.in-Some.ensures
