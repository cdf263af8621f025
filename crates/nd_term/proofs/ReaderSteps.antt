-- Reading thin trees.
use Rattle.std.proofs.lemmas.Grind.{common_steps}
use Rattle.nd_term.proofs.FormulaViews.{theory-Atom, theory-False, theory-True}
use Rattle.nd_term.proofs.OutputSteps.{ground-Any}
use Rattle.nd_term.proofs.TreeSteps.{tree-Leaf, tree-NoLiteral, tree_steps}

pub ruleset reader_steps = (tree_steps, ground-Any)

-- the same of formulas that give no choice
pub ruleset end_steps = (common_steps, tree-Leaf, tree-NoLiteral, theory-Atom, theory-False, theory-True)
