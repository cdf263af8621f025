-- What a plan has so that its body can be built.
use Rattle.std.specs.Prelude.{◌≡◌, ℕ, ◌<◌, get_or, length, slice_get, Option, Some, None}
use Rattle.assemble.specs.Justification.{Reason, by_denied, by_leaf, by_resolve, by_same, by_subsume}
use Rattle.dk_syntax.specs.Lists.{Every}
use Rattle.dk_syntax.specs.Problems.{formulas_of}
use Rattle.dk_syntax.specs.WellFormed.{IsClosed}
use Rattle.dk_syntax.specs.declared.Problem.{Problem}
use Rattle.expansion.specs.declared.thin.Thin.{Thin}
use Rattle.ground_instances.specs.Lists.{instances_of}
use Rattle.ground_instances.specs.declared.instance.Instance.{Instance}
use Rattle.nd_term.specs.TreeKinds.{leaves}
use Rattle.plan.specs.Maps.{map_at}
use Rattle.plan.specs.declared.maps.StepMap.{StepMap}
use Rattle.plan.specs.declared.plan.Plan.{Plan}
use Rattle.plan_typing.specs.Reasons.{reason_of}
use Rattle.tstp_trace.specs.declared.step.Trace.{Trace}

-- the hypothesis and the instances of a reason are there, and its thin tree has an end for each literal
abbrev pub IsMet : (hypotheses done literals : ℕ) → Reason → Type 0
IsMet hypotheses done literals (by_leaf h f tree) = (h < hypotheses) × (leaves tree ≡ literals)
IsMet hypotheses done literals (by_denied f tree) = leaves tree ≡ literals
IsMet hypotheses done literals (by_same p) = p < done
IsMet hypotheses done literals (by_subsume p picks) = p < done
IsMet hypotheses done literals (by_resolve p q pos_picks neg_picks a) = (p < done) × (q < done)

-- the thin tree has the sign of its step's leaf
abbrev pub HasSign : Plan → Instance → Option Thin → Type 0
HasSign plan it None = Unit {0}
HasSign plan it (Some thin) = (map : StepMap) → map_at plan.maps it.step ≡ Some map → thin.sign ≡ map.sign

-- The formulas are closed, and each instance of the plan has a reason from those before it.
pub record IsBuildable (problem : Problem) (trace : Trace) (plan : Plan) : Type 0 where
  pub closed : Every IsClosed (formulas_of problem)
  pub signs : (number : ℕ) (it : Instance) → slice_get (instances_of plan.instances) number ≡ Some it → HasSign plan it (get_or plan.thins number None)
  pub met : (number : ℕ) (it : Instance) → slice_get (instances_of plan.instances) number ≡ Some it
      → IsMet (length problem.hyps) number (length it.lits) (reason_of problem trace plan it (get_or plan.thins number None))
