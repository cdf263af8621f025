use Rattle.std.proofs.Common.{subst}
use Rattle.tptp_text.specs.declared.Item.{Item}
use Rattle.std.specs.Prelude.{List}
use Rattle.tstp_trace.specs.Problems.{IsProblemOf}
use Rattle.tstp_trace.proofs.KeptLaws.{distinct_problem}
use Rattle.tstp_trace.proofs.ProperLaws.{proper_problem}
use Rattle.tstp_trace.proofs.problems.problem_from.Goals as goal

pub returns-in-Ok-clause-names : goal.returns-in-Ok-clause-names
returns-in-Ok-clause-names c = distinct_problem c.into_vec.result.items c.in-Ok.problem c.in-Ok.ensures

pub returns-in-Ok-clause-proper : goal.returns-in-Ok-clause-proper
returns-in-Ok-clause-proper c proper =
    proper_problem c.args.items c.in-Ok.problem (subst (λ (l : List Item). IsProblemOf l c.in-Ok.problem) c.into_vec.ensures c.in-Ok.ensures) proper
