-- A plan whose instances are right has all that its body is built from.
use Rattle.std.specs.Prelude.{ℕ, List}
use Rattle.assemble.specs.Fitting.{eigenvariables_of}
use Rattle.assemble.specs.Justification.{Right}
use Rattle.assemble.specs.Problem.{theory_conclusion, theory_formulas}
use Rattle.development.specs.Buildable.{IsBuildable}
use Rattle.dk_syntax.specs.Lists.{Every}
use Rattle.dk_syntax.specs.Problems.{formulas_of}
use Rattle.dk_syntax.specs.WellFormed.{IsClosed}
use Rattle.dk_syntax.specs.declared.Problem.{Problem}
use Rattle.lp_term.specs.Typing.{Declaration}
use Rattle.plan.specs.Plans.{IsPlan}
use Rattle.plan.specs.declared.plan.Plan.{Plan}
use Rattle.plan_typing.specs.Reasons.{theory_instances}
use Rattle.tstp_trace.specs.declared.step.Trace.{Trace}

abbrev pub PlansAreBuildable : Type 0
PlansAreBuildable =
    (sig : List Declaration) (problem : Problem) (trace : Trace) (limit : ℕ) (plan : Plan) → Every IsClosed (formulas_of problem) → IsPlan problem trace limit plan
    → Right sig (eigenvariables_of plan.origins.list plan.order) (theory_formulas problem.hyps) (theory_conclusion problem.conjecture) (theory_instances problem trace plan)
    → IsBuildable problem trace plan
