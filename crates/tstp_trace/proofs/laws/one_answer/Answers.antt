use Rattle.tstp_trace.proofs.AnswerLaws.{one_problem, one_trace}
use Rattle.tstp_trace.proofs.laws.one_answer.Goals as goal

pub returns-clause-problem : goal.returns-clause-problem
returns-clause-problem c = one_problem

pub returns-clause-trace : goal.returns-clause-trace
returns-clause-trace c = one_trace
