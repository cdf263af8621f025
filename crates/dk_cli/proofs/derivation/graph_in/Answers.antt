use Rattle.std.proofs.Common.{subst, sym}
use Rattle.derivation_graph.specs.Graphs.{AreDistinct, IsGraphAnswer, names_of}
use Rattle.dk_cli.specs.Derivations.{IsGraphIn}
use Rattle.dk_cli.proofs.Derived.{node_names}
use Rattle.dk_cli.proofs.StageLaws.{answered}
use Rattle.dk_cli.proofs.derivation.graph_in.Goals as goal

pub graph_of-requires : goal.graph_of-requires
graph_of-requires c =
    subst (λ nodes. AreDistinct (names_of nodes)) (sym c.in_ok-nodes.ensures) (subst AreDistinct (sym (node_names c.args.trace.now)) c.requires)

pub returns : goal.returns
returns c =
    answered (IsGraphIn c.args.trace.now) c.told_graph.result
    (c.graph_of.result, subst (λ nodes. IsGraphAnswer nodes c.graph_of.result) c.in_ok-nodes.ensures c.graph_of.ensures.answer, c.told_graph.ensures)
