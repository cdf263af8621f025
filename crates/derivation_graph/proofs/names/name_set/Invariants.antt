-- The names so far.
use Rattle.std.proofs.Common.{◌≡◌, take}
use Rattle.derivation_graph.specs.Graphs.{names_of}
use Rattle.derivation_graph.specs.Names.{bytes_of}
use Rattle.derivation_graph.proofs.names.name_set.Given as goal

abbrev pub invariant-loop-node : goal.invariant-loop-node
invariant-loop-node l = bytes_of l.set.keys ≡ take l.node-index (names_of l.nodes)
