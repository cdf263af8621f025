-- The body of goal for a plan has the type of the problem.
use Rattle.std.specs.Prelude.{ℕ, List, [], ◌++◌, map, option_to_list}
use Rattle.assemble.specs.Body.{goal_body, goal_type}
use Rattle.assemble.specs.Fitting.{eigenvariables_of}
use Rattle.assemble.specs.Justification.{Right}
use Rattle.assemble.specs.Origins.{InTurn}
use Rattle.assemble.specs.Problem.{problem_signature, theory_conclusion, theory_formulas}
use Rattle.assemble.specs.ProblemLaws.{IsProper}
use Rattle.dk_syntax.specs.declared.Problem.{Problem}
use Rattle.lp_term.specs.LambdaPi.{Term}
use Rattle.lp_term.specs.Scope.{Declared, VariablesBelow}
use Rattle.lp_term.specs.Typing.{HasType}
use Rattle.plan.specs.Laws.{AreWellFormed}
use Rattle.plan.specs.Plans.{IsPlan}
use Rattle.plan.specs.declared.plan.Plan.{Plan}
use Rattle.plan_typing.specs.Reasons.{theory_instances}
use Rattle.tstp_trace.specs.Names.{AreDistinct}
use Rattle.tstp_trace.specs.declared.step.Trace.{Trace}

-- the names of the hypotheses, and that of the conjecture
abbrev pub item_names : Problem → List (List ℕ)
item_names problem = map (λ named. named.name) (problem.hyps ++ option_to_list problem.conjecture)

-- a plan for a problem and a trace as they are read
pub record IsProperPlan (problem : Problem) (trace : Trace) (limit : ℕ) (plan : Plan) : Type 0 where
  pub proper : IsProper problem
  pub names : AreDistinct (item_names problem)
  pub formed : AreWellFormed trace.steps
  pub plan_is : IsPlan problem trace limit plan

-- the body of goal
abbrev pub plan_body : Problem → Trace → Plan → Term
plan_body problem trace plan =
    goal_body (theory_formulas problem.hyps) (eigenvariables_of plan.origins.list plan.order) (theory_conclusion problem.conjecture) (theory_instances problem trace plan)

-- the origin formulas of the eigenvariables mention only those before
abbrev pub EigenvariablesAreInTurn : Type 0
EigenvariablesAreInTurn =
    (problem : Problem) (trace : Trace) (limit : ℕ) (plan : Plan) → IsProperPlan problem trace limit plan
    → InTurn (problem_signature problem.symbols) (eigenvariables_of plan.origins.list plan.order)

-- each instance has a reason from those before it, and the last one's clause is empty
abbrev pub InstancesAreRight : Type 0
InstancesAreRight =
    (problem : Problem) (trace : Trace) (limit : ℕ) (plan : Plan) → IsProperPlan problem trace limit plan
    → Right (problem_signature problem.symbols) (eigenvariables_of plan.origins.list plan.order) (theory_formulas problem.hyps)
    (theory_conclusion problem.conjecture) (theory_instances problem trace plan)

-- so the body has the type of the problem
abbrev pub PlanBodyIsTyped : Type 0
PlanBodyIsTyped =
    (problem : Problem) (trace : Trace) (limit : ℕ) (plan : Plan) → IsProperPlan problem trace limit plan
    → HasType (problem_signature problem.symbols) [] (plan_body problem trace plan) (goal_type (theory_formulas problem.hyps) (theory_conclusion problem.conjecture))

-- no variable is free in it, and each symbol in it is declared by the prelude or for the problem
abbrev pub PlanBodyIsClosed : Type 0
PlanBodyIsClosed =
    (problem : Problem) (trace : Trace) (limit : ℕ) (plan : Plan) → IsProperPlan problem trace limit plan
    → VariablesBelow 0 (plan_body problem trace plan) × Declared (problem_signature problem.symbols) (plan_body problem trace plan)
