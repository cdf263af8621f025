-- The development of a problem and a plan: the prelude, the symbols, and the definition of goal.
use Rattle.std.specs.Prelude.{◌≡◌, [], ◌∷◌, ◌++◌, codes}
use Rattle.dk_syntax.specs.declared.Problem.{Problem}
use Rattle.lp_term.specs.Prelude.{prelude}
use Rattle.lp_term.specs.Problems.{constants_of, goal_type_of}
use Rattle.lp_term.specs.View.{term_of}
use Rattle.lp_term.specs.declared.Command.TheVariants.{Define}
use Rattle.lp_term.specs.declared.Dev.{Dev}
use Rattle.lp_term.specs.declared.Lp.{Lp}
use Rattle.plan.specs.declared.plan.Plan.{Plan}
use Rattle.plan_typing.specs.Laws.{plan_body}
use Rattle.tstp_trace.specs.declared.step.Trace.{Trace}

-- The commands are the prelude, a constant for each symbol of the problem, and the definition of goal, whose body is that of the plan.
pub record IsDevelopment (problem : Problem) (trace : Trace) (plan : Plan) (dev : Dev) : Type 0 where
  pub body : Lp
  pub is : term_of body ≡ plan_body problem trace plan
  pub commands : dev.commands ≡ prelude ++ constants_of problem.symbols ++ Define (codes "goal") (goal_type_of problem) body ∷ []
