use Rattle.derivation_graph.proofs.AnswerLaws.{one_graph, one_root}
use Rattle.derivation_graph.proofs.laws.one_answer.Goals as goal

pub returns-clause-graph : goal.returns-clause-graph
returns-clause-graph c = one_graph

pub returns-clause-root : goal.returns-clause-root
returns-clause-root c = one_root
