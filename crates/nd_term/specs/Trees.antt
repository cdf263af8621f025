-- The program's thin trees as those of the theory.
use Rattle.nd_term.specs.Outputs.{ground_of}
use Rattle.nd_term.specs.ThinTrees.{ThinTree, below_not, both, choice, eigenvariable_at, leaf, left, no_literal, right, vacuous}
use Rattle.nd_term.specs.declared.tree.Tree.{Tree, Tree-F, fold-Tree}
use Rattle.nd_term.specs.declared.tree.Tree.TheOpen as tree

abbrev pub tree_of_at : Tree-F ThinTree → ThinTree
tree_of_at tree.NoLiteral = no_literal
tree_of_at tree.Leaf = leaf
tree_of_at (tree.BelowNot a) = below_not a
tree_of_at (tree.Left a) = left a
tree_of_at (tree.Right a) = right a
tree_of_at (tree.Both a b) = both a b
tree_of_at (tree.Choice term a) = choice (ground_of term) a
tree_of_at (tree.Eigenvariable number a) = eigenvariable_at number a
tree_of_at (tree.Vacuous a) = vacuous a

-- the same tree
abbrev pub tree_of : Tree → ThinTree
tree_of = fold-Tree ThinTree tree_of_at
