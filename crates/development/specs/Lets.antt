-- The lets of a plan's instances, by their numbers.
use Rattle.std.specs.Prelude.{ℕ, ◌+◌, [], drop, get_or, length, None}
use Rattle.assemble.specs.Levels.{abstractions_at, lets_at, place_at}
use Rattle.assemble.specs.Problem.{theory_conclusion}
use Rattle.development.specs.Places.{levels_in}
use Rattle.dk_syntax.specs.declared.Problem.{Problem}
use Rattle.ground_instances.specs.declared.instance.Instance.{Instance}
use Rattle.lp_term.specs.LambdaPi.{Term}
use Rattle.lp_term.specs.ProofTerms.{let_term}
use Rattle.nd_term.specs.Instances.{clause_type}
use Rattle.plan.specs.declared.plan.Plan.{Plan}
use Rattle.plan_typing.specs.Reasons.{theory_instance, theory_instances}
use Rattle.tstp_trace.specs.declared.step.Trace.{Trace}

module _ (problem : Problem) (trace : Trace) (plan : Plan) where
  -- the let of an instance, over the lets after it
  abbrev pub let_built : (first begin number : ℕ) → Instance → Term → Term
  let_built first begin number it rest =
      let p = levels_in (length problem.hyps) first (length plan.order) begin number in
      let i = theory_instance problem trace plan it (get_or plan.thins number None) in
      let_term (clause_type (place_at (begin + number) p).eigenvariables i.clause) (abstractions_at i.clause (begin + number) p [] i.by) rest

  -- the lets from a number on
  abbrev pub lets_from : (first begin number : ℕ) → Term
  lets_from first begin number =
      lets_at (begin + number) (levels_in (length problem.hyps) first (length plan.order) begin number) (drop number (theory_instances problem trace plan))
      (theory_conclusion problem.conjecture)
