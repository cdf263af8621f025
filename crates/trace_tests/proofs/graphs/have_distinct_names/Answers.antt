use Rattle.std.proofs.Common.{subst}
use Rattle.std.specs.Prelude.{IsTrue}
use Rattle.derivation_graph.specs.Graphs.{AreDistinct, names_of}
use Rattle.trace_tests.proofs.graphs.have_distinct_names.Goals as goal

pub returns : goal.returns
returns c = subst (λ l. IsTrue c.are_distinct.result → AreDistinct (names_of l)) c.as_slice.ensures c.are_distinct.ensures
