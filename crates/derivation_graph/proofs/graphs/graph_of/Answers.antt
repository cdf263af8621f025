use Rattle.std.proofs.Common.{sym, subst, ◌∙◌}
use Rattle.derivation_graph.specs.Graphs.{HasStepsForParents}
use Rattle.derivation_graph.proofs.GraphLaws.{rows_stand}
use Rattle.derivation_graph.proofs.graphs.graph_of.Goals as goal

pub find_cycle-requires : goal.find_cycle-requires
find_cycle-requires c =
    let rows = c.in_ok-parents.ensures in
    subst HasStepsForParents (sym (c.as_slice.ensures ∙ rows.1)) (rows_stand c.as_slice-nodes.result.now rows.0)

pub returns-in-None-clause-steps : goal.returns-in-None-clause-steps
returns-in-None-clause-steps c =
    let rows = c.in_ok-parents.ensures in
    subst HasStepsForParents (sym rows.1) (rows_stand c.as_slice-nodes.result.now rows.0)
