-- The plan that a proof of a derivation is made from, or the first refusal.
use Rattle.std.specs.Prelude.{◌≡◌, ℕ, Ok, Err, None, Some}
use Rattle.std.specs.declared.option.Option.{Option}
use Rattle.std.specs.declared.result.Result.{Result}
use Rattle.dk_syntax.specs.declared.Problem.{Problem}
use Rattle.derivation_graph.specs.Roots.{IsRootAnswer}
use Rattle.plan.specs.Plans.{IsPlan, barred_in, formulas_in}
use Rattle.plan.specs.declared.plan.Plan.{Plan}
use Rattle.plan.specs.declared.plan.PlanFault.{PlanFault}
use Rattle.plan.specs.declared.plan.PlanFault.TheVariants as plan_fault
use Rattle.step_check.specs.declared.verdict.Verdicts.{Verdicts}
use Rattle.tstp_trace.specs.declared.Trace.{Trace}
use Rattle.dk_cli.specs.Judging.{IsJudged}
use Rattle.dk_cli.specs.Stages.{Follows}
use Rattle.dk_cli.specs.Weight.{IsWeighed}
use Rattle.dk_cli.specs.declared.derivation.Derivation.{Derivation}
use Rattle.dk_cli.specs.declared.refusal.Refusal.{Refusal}
use Rattle.dk_cli.specs.declared.refusal.Refusal.TheVariants as refusal
use Rattle.dk_cli.specs.declared.refusal.StepFault.TheVariants as step_fault

-- ---- root

abbrev pub root_told : Option ℕ → Result ℕ Refusal
root_told None = Err refusal.NoRefutation
root_told (Some root) = Ok root

-- The root of a trace: its first step with the formula `$false` that doesn't name the conjecture.
abbrev pub IsRootIn : Problem → Trace → Result ℕ Refusal → Type 0
IsRootIn problem trace answer = (found : Option ℕ) × IsRootAnswer (formulas_in trace) (barred_in problem trace) found × (answer ≡ root_told found)

-- ---- plan

-- Where nothing is refused before, there is a plan.
abbrev pub IsPlanned : Derivation → ℕ → Result Plan Refusal → Type 0
IsPlanned d limit (Ok plan) = IsPlan d.problem d.trace limit plan
IsPlanned d limit (Err why) = ⊥

-- This is a plan for the derivation, for some limit.
abbrev pub IsPlanFor : Derivation → Plan → Type 0
IsPlanFor d plan = (limit : ℕ) × IsPlan d.problem d.trace limit plan

-- The plan of a derivation with that root and these verdicts: what the root needs is within the limits.
abbrev pub IsBoundedPlan : Derivation → ℕ → ℕ → Verdicts → Result Plan Refusal → Type 0
IsBoundedPlan d limit root verdicts answer = Follows (IsWeighed d limit root verdicts) (λ nothing. IsPlanned d limit) answer

-- That of a derivation with that root: every step is right, also one that the root doesn't need.
abbrev pub IsRightPlan : Derivation → ℕ → ℕ → Result Plan Refusal → Type 0
IsRightPlan d limit root answer = Follows (IsJudged d) (IsBoundedPlan d limit root) answer

-- That of a derivation, with that limit on the weight.
abbrev pub IsPlanOf : ℕ → Derivation → Result Plan Refusal → Type 0
IsPlanOf limit d answer = Follows (IsRootIn d.problem d.trace) (IsRightPlan d limit) answer

-- ---- how a fault is told

-- A derivation has its graph, so the first two don't come.
abbrev pub planning_refusal : PlanFault → Refusal
planning_refusal (plan_fault.MissingParent step name) = refusal.Step step (step_fault.MissingParent name)
planning_refusal (plan_fault.Cycle step) = refusal.Step step step_fault.Cycle
planning_refusal plan_fault.NoRefutation = refusal.NoRefutation
planning_refusal (plan_fault.Wrong step reason) = refusal.Step step (step_fault.Wrong reason)
planning_refusal (plan_fault.Over step limit) = refusal.Step step (step_fault.Over limit)
planning_refusal (plan_fault.OverWeight limit) = refusal.OverWeight limit
planning_refusal (plan_fault.OverWide step) = refusal.OverWide step
planning_refusal plan_fault.Memory = refusal.Memory
