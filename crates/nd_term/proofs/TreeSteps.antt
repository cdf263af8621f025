-- The program's thin trees, kind by kind.
use Rattle.std.proofs.Common.{◌≡◌, ℕ, false, refl, ap, subst, rules}
use Rattle.std.proofs.lemmas.Grind.{common_steps}
use Rattle.dk_syntax.specs.declared.Term.{Term}
use Rattle.nd_term.specs.Outputs.{ground_of}
use Rattle.nd_term.specs.ThinTrees.{below_not, both, choice, eigenvariable_at, leaf, left, no_literal, right, vacuous}
use Rattle.nd_term.specs.TreeKinds.{is_both, is_choice, is_not, is_side, is_witness}
use Rattle.nd_term.specs.Trees.{tree_of}
use Rattle.nd_term.specs.declared.tree.Tree.{Tree, Tree-F, ind-Tree, map-Tree, roll-Tree, the_lemmas as of_trees}
use Rattle.nd_term.specs.declared.tree.Tree.TheOpen as layer
use Rattle.nd_term.specs.declared.tree.Tree.TheVariants.{BelowNot, Both, Choice, Eigenvariable, Leaf, Left, NoLiteral, Right, Vacuous, rolls-BelowNot, rolls-Both, rolls-Choice, rolls-Eigenvariable, rolls-Leaf, rolls-Left, rolls-NoLiteral, rolls-Right, rolls-Vacuous}

pub tree-NoLiteral : tree_of NoLiteral ≡ no_literal
tree-NoLiteral = search (rules, of_trees)

pub tree-Leaf : tree_of Leaf ≡ leaf
tree-Leaf = search (rules, of_trees)

pub tree-BelowNot : (a : Tree) → tree_of (BelowNot a) ≡ below_not (tree_of a)
tree-BelowNot a = search (rules, of_trees)

pub tree-Left : (a : Tree) → tree_of (Left a) ≡ left (tree_of a)
tree-Left a = search (rules, of_trees)

pub tree-Right : (a : Tree) → tree_of (Right a) ≡ right (tree_of a)
tree-Right a = search (rules, of_trees)

pub tree-Both : (a b : Tree) → tree_of (Both a b) ≡ both (tree_of a) (tree_of b)
tree-Both a b = search (rules, of_trees)

pub tree-Choice : (t : Term) (a : Tree) → tree_of (Choice t a) ≡ choice (ground_of t) (tree_of a)
tree-Choice t a = search (rules, of_trees)

pub tree-Eigenvariable : (k : ℕ) (a : Tree) → tree_of (Eigenvariable k a) ≡ eigenvariable_at k (tree_of a)
tree-Eigenvariable k a = search (rules, of_trees)

pub tree-Vacuous : (a : Tree) → tree_of (Vacuous a) ≡ vacuous (tree_of a)
tree-Vacuous a = search (rules, of_trees)

-- ---- each kind of tree

module _ (P : Tree → Type 0) (at_noliteral : P NoLiteral) (at_leaf : P Leaf) (at_belownot : (a : Tree) → P (BelowNot a)) (at_left : (a : Tree) → P (Left a))
    (at_right : (a : Tree) → P (Right a)) (at_both : (a : Tree) (b : Tree) → P (Both a b)) (at_choice : (x : Term) (a : Tree) → P (Choice x a))
    (at_eigenvariable : (k : ℕ) (a : Tree) → P (Eigenvariable k a)) (at_vacuous : (a : Tree) → P (Vacuous a)) where
  at_layer : (y : Tree-F ((t : Tree) × P t)) → P (roll-Tree (map-Tree ((t : Tree) × P t) Tree (λ one. one.0) y))
  at_layer layer.NoLiteral = rw rolls-NoLiteral at_noliteral
  at_layer layer.Leaf = rw rolls-Leaf at_leaf
  at_layer (layer.BelowNot a) = rw (rolls-BelowNot a.0) (at_belownot a.0)
  at_layer (layer.Left a) = rw (rolls-Left a.0) (at_left a.0)
  at_layer (layer.Right a) = rw (rolls-Right a.0) (at_right a.0)
  at_layer (layer.Both a b) = rw (rolls-Both a.0 b.0) (at_both a.0 b.0)
  at_layer (layer.Choice x a) = rw (rolls-Choice x a.0) (at_choice x a.0)
  at_layer (layer.Eigenvariable k a) = rw (rolls-Eigenvariable k a.0) (at_eigenvariable k a.0)
  at_layer (layer.Vacuous a) = rw (rolls-Vacuous a.0) (at_vacuous a.0)

  pub tree_cases : (t : Tree) → P t
  tree_cases = ind-Tree P (λ x y e. subst (λ z. P (roll-Tree z)) e (at_layer y))

-- ---- trees of another kind

pub no_not : (t : Tree) → ((a : Tree) → t ≡ BelowNot a → ⊥) → is_not (tree_of t) ≡ false
no_not =
    tree_cases (λ t. ((a : Tree) → t ≡ BelowNot a → ⊥) → is_not (tree_of t) ≡ false)
    (λ h. ap is_not tree-NoLiteral)
    (λ h. ap is_not tree-Leaf)
    (λ a h. absurd (h a refl))
    (λ a h. ap is_not (tree-Left a))
    (λ a h. ap is_not (tree-Right a))
    (λ a b h. ap is_not (tree-Both a b))
    (λ x a h. ap is_not (tree-Choice x a))
    (λ k a h. ap is_not (tree-Eigenvariable k a))
    (λ a h. ap is_not (tree-Vacuous a))

pub no_side : (t : Tree) → ((a : Tree) → t ≡ Left a → ⊥) → ((a : Tree) → t ≡ Right a → ⊥) → is_side (tree_of t) ≡ false
no_side =
    tree_cases (λ t. ((a : Tree) → t ≡ Left a → ⊥) → ((a : Tree) → t ≡ Right a → ⊥) → is_side (tree_of t) ≡ false)
    (λ h i. ap is_side tree-NoLiteral)
    (λ h i. ap is_side tree-Leaf)
    (λ a h i. ap is_side (tree-BelowNot a))
    (λ a h i. absurd (h a refl))
    (λ a h i. absurd (i a refl))
    (λ a b h i. ap is_side (tree-Both a b))
    (λ x a h i. ap is_side (tree-Choice x a))
    (λ k a h i. ap is_side (tree-Eigenvariable k a))
    (λ a h i. ap is_side (tree-Vacuous a))

pub no_both : (t : Tree) → ((a : Tree) (b : Tree) → t ≡ Both a b → ⊥) → is_both (tree_of t) ≡ false
no_both =
    tree_cases (λ t. ((a : Tree) (b : Tree) → t ≡ Both a b → ⊥) → is_both (tree_of t) ≡ false)
    (λ h. ap is_both tree-NoLiteral)
    (λ h. ap is_both tree-Leaf)
    (λ a h. ap is_both (tree-BelowNot a))
    (λ a h. ap is_both (tree-Left a))
    (λ a h. ap is_both (tree-Right a))
    (λ a b h. absurd (h a b refl))
    (λ x a h. ap is_both (tree-Choice x a))
    (λ k a h. ap is_both (tree-Eigenvariable k a))
    (λ a h. ap is_both (tree-Vacuous a))

pub no_choice : (t : Tree) → ((x : Term) (a : Tree) → t ≡ Choice x a → ⊥) → is_choice (tree_of t) ≡ false
no_choice =
    tree_cases (λ t. ((x : Term) (a : Tree) → t ≡ Choice x a → ⊥) → is_choice (tree_of t) ≡ false)
    (λ h. ap is_choice tree-NoLiteral)
    (λ h. ap is_choice tree-Leaf)
    (λ a h. ap is_choice (tree-BelowNot a))
    (λ a h. ap is_choice (tree-Left a))
    (λ a h. ap is_choice (tree-Right a))
    (λ a b h. ap is_choice (tree-Both a b))
    (λ x a h. absurd (h x a refl))
    (λ k a h. ap is_choice (tree-Eigenvariable k a))
    (λ a h. ap is_choice (tree-Vacuous a))

pub no_witness : (t : Tree) → ((k : ℕ) (a : Tree) → t ≡ Eigenvariable k a → ⊥) → ((a : Tree) → t ≡ Vacuous a → ⊥) → is_witness (tree_of t) ≡ false
no_witness =
    tree_cases (λ t. ((k : ℕ) (a : Tree) → t ≡ Eigenvariable k a → ⊥) → ((a : Tree) → t ≡ Vacuous a → ⊥) → is_witness (tree_of t) ≡ false)
    (λ h i. ap is_witness tree-NoLiteral)
    (λ h i. ap is_witness tree-Leaf)
    (λ a h i. ap is_witness (tree-BelowNot a))
    (λ a h i. ap is_witness (tree-Left a))
    (λ a h i. ap is_witness (tree-Right a))
    (λ a b h i. ap is_witness (tree-Both a b))
    (λ x a h i. ap is_witness (tree-Choice x a))
    (λ k a h i. absurd (h k a refl))
    (λ a h i. absurd (i a refl))

pub ruleset tree_steps = (common_steps, of_trees, tree-NoLiteral, tree-Leaf, tree-BelowNot, tree-Left, tree-Right, tree-Both, tree-Choice, tree-Eigenvariable, tree-Vacuous)
