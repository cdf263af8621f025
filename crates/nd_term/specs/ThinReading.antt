-- The program's thin trees as they are read.
use Rattle.std.specs.Prelude.{ℕ, Bool, List, map, drop}
use Rattle.expansion.specs.declared.thin.Thin.{Thin}
use Rattle.nd_term.specs.Consumers.{consumer}
use Rattle.nd_term.specs.Formulas.{Formula, unassigned}
use Rattle.nd_term.specs.Outputs.{output, place_of}
use Rattle.nd_term.specs.Places.{at_level, eigenvariables, last_variables, witnesses}
use Rattle.nd_term.specs.Reading.{Choices, Read, read, read_as}
use Rattle.nd_term.specs.ThinTrees.{ThinTree}
use Rattle.nd_term.specs.TreeKinds.{leaves}
use Rattle.nd_term.specs.Trees.{tree_of}
use Rattle.nd_term.specs.declared.place.Place.{Place}
use Rattle.nd_term.specs.declared.cursor.Cursor.{Cursor}
use Rattle.nd_term.specs.declared.cursor.Reading.{Reading}
use Rattle.nd_term.specs.declared.cursor.Source.{Source}
use Rattle.lp_term.specs.LambdaPi.{Term}

-- the choices of a thin tree, as they are in proof terms
abbrev pub choices_of : Thin → Place → Choices
choices_of thin place = record {
  sides = thin.picks;
  terms = map (output place.symbols.now place.order.now) thin.terms;
  eigens = map (place_of place.order.now) thin.skolems;
}

-- the tree that a formula with the thin tree's sign has
abbrev pub tree_at : Formula → Thin → Place → ThinTree
tree_at f thin place = (read f thin.sign (choices_of thin place)).tree

-- the consumer of a hypothesis that is bound at the level base, or of the denied conjecture there
abbrev pub consumer_at : Formula → Thin → ℕ → Place → Term
consumer_at f thin base place =
    consumer f thin.sign (tree_at f thin place) unassigned (eigenvariables place) (witnesses place) (last_variables (leaves (tree_at f thin place))) (at_level place.level base)

-- the choices that are left at a cursor
abbrev pub choices_at : Source → Cursor → Choices
choices_at source c = record {
  sides = drop c.sides source.thin.now.picks;
  terms = map (output source.place.now.symbols.now source.place.now.order.now) (drop c.terms source.thin.now.terms);
  eigens = map (place_of source.place.now.order.now) (drop c.skolems source.thin.now.skolems);
}

-- a tree that was read, and the choices that are left
abbrev pub reading_of : Source → Reading → Read
reading_of source r = read_as (tree_of r.tree) (choices_at source r.rest)
