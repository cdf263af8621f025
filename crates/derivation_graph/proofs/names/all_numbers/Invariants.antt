-- The steps before the place have their parents.
use Rattle.std.proofs.Common.{◌≡◌, take, map}
use Rattle.derivation_graph.specs.Graphs.{HasParentsBefore, names_of, numbers_of}
use Rattle.derivation_graph.proofs.names.all_numbers.Given as goal

abbrev pub invariant-loop-place : goal.invariant-loop-place
invariant-loop-place l = record {
  numbers : l.rows.items ≡ map (numbers_of (names_of l.nodes)) (take l.place l.nodes);
  sound : HasParentsBefore l.nodes l.place;
}
