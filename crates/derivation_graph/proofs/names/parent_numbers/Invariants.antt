-- The parents before the index are there.
use Rattle.std.proofs.Common.{◌≡◌, None, take, map}
use Rattle.std.specs.Prelude.{find}
use Rattle.derivation_graph.specs.Graphs.{is_missing, number_of}
use Rattle.derivation_graph.specs.Names.{bytes_of}
use Rattle.derivation_graph.proofs.names.parent_numbers.Given as goal

abbrev pub invariant-loop-parent : goal.invariant-loop-parent
invariant-loop-parent l = record {
  numbers : l.row.items ≡ map (number_of (bytes_of l.set.keys)) (take l.parent-index l.parent-items);
  found : find (is_missing (bytes_of l.set.keys)) (take l.parent-index l.parent-items) ≡ None;
}
