-- Kinds of thin trees.
use Rattle.std.specs.Prelude.{ℕ, ◌+◌, Bool, true, false}
use Rattle.nd_term.specs.ThinTrees.{ThinTree, below_not, both, choice, eigenvariable_at, leaf, left, no_literal, right, vacuous}

-- how many literals a tree gives
abbrev pub leaves : ThinTree → ℕ
leaves no_literal = 0
leaves leaf = 1
leaves (below_not a) = leaves a
leaves (left a) = leaves a
leaves (right a) = leaves a
leaves (both a b) = leaves a + leaves b
leaves (choice u a) = leaves a
leaves (eigenvariable_at k a) = leaves a
leaves (vacuous a) = leaves a

-- a tree that goes to a side
abbrev pub to_side : Bool → ThinTree → ThinTree
to_side true a = right a
to_side false a = left a

-- the tree of $true or $false
abbrev pub is_empty : ThinTree → Bool
is_empty no_literal = true
is_empty _ = false

-- of an atom
abbrev pub is_leaf : ThinTree → Bool
is_leaf leaf = true
is_leaf _ = false

-- through a negation
abbrev pub is_not : ThinTree → Bool
is_not (below_not a) = true
is_not _ = false

-- through both sides
abbrev pub is_both : ThinTree → Bool
is_both (both a b) = true
is_both _ = false

-- with a ground term for a quantifier's variable
abbrev pub is_choice : ThinTree → Bool
is_choice (choice u a) = true
is_choice _ = false

-- to a side
abbrev pub is_side : ThinTree → Bool
is_side (left a) = true
is_side (right a) = true
is_side _ = false

-- with an eigenvariable, or through a quantifier that binds nothing
abbrev pub is_witness : ThinTree → Bool
is_witness (eigenvariable_at k a) = true
is_witness (vacuous a) = true
is_witness _ = false
