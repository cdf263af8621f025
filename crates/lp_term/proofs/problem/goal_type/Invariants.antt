use Rattle.std.proofs.Common.{length}
use Rattle.lp_term.specs.Problems.{conclusion_of}
use Rattle.lp_term.specs.Terms.{proof_of}
use Rattle.lp_term.proofs.ProblemLaws.{Covers}
use Rattle.lp_term.proofs.problem.goal_type.Given as goal

abbrev pub invariant-loop-rest : goal.invariant-loop-rest
invariant-loop-rest l = Covers l.problem.hyps (proof_of (conclusion_of l.problem.conjecture)) l.rest l.all

abbrev pub decreases-loop-rest : goal.decreases-loop-rest
decreases-loop-rest l = length l.rest
