use Rattle.normal_form.proofs.FormLaws.{form_is_tree, tree_is_form}
use Rattle.normal_form.proofs.laws.forms_are_trees.Goals as goal

pub returns : goal.returns
returns c = record { tree = form_is_tree; form = tree_is_form }
