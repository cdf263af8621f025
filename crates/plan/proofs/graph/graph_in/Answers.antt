use Rattle.std.proofs.Common.{subst, sym}
use Rattle.derivation_graph.specs.Graphs.{AreDistinct, IsGraphAnswer, names_of}
use Rattle.plan.proofs.NodeNames.{node_names}
use Rattle.plan.proofs.Refusals.{graph_stage}
use Rattle.plan.proofs.graph.graph_in.Goals as goal
use Rattle.plan.specs.Plans.{IsGraphStage}

pub graph_of-requires : goal.graph_of-requires
graph_of-requires c =
    subst (λ nodes. AreDistinct (names_of nodes)) (sym c.in_ok-nodes.ensures) (subst AreDistinct (sym (node_names c.args.trace.now)) c.requires)

pub returns : goal.returns
returns c =
    subst (IsGraphStage c.args.trace.now) (sym c.told.ensures)
    (graph_stage c.args.trace.now c.graph_of.result (subst (λ nodes. IsGraphAnswer nodes c.graph_of.result) c.in_ok-nodes.ensures c.graph_of.ensures.answer))
