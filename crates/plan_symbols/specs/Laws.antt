-- Which symbols stand in the steps of a right trace, in its instances and in its plan.
use Rattle.std.specs.Prelude.{◌≡◌, ℕ, List, Some}
use Rattle.dk_syntax.specs.Lists.{Every}
use Rattle.dk_syntax.specs.Problems.{HasItsSymbols}
use Rattle.dk_syntax.specs.Symbols.{formula_occurrences}
use Rattle.dk_syntax.specs.declared.Problem.{Problem}
use Rattle.expansion.specs.declared.thin.Thin.{Thin}
use Rattle.ground_instances.specs.Instances.{AreInstances}
use Rattle.ground_instances.specs.declared.instance.Instance.{Instance}
use Rattle.plan.specs.Laws.{AreRightSteps, AreWellFormed, judged_of}
use Rattle.plan.specs.OnePlan.{HasWellFormedRoots}
use Rattle.plan.specs.Origins.{AreOrigins}
use Rattle.plan.specs.Plans.{IsPlan}
use Rattle.plan.specs.Thins.{IsThin}
use Rattle.plan.specs.declared.plan.Plan.{Plan}
use Rattle.plan_symbols.specs.Over.{IsListed, IsLiteralOver, IsTermOver, known_symbols}
use Rattle.skolem_order.specs.declared.origins.Origin.{Origin}
use Rattle.step_check.specs.Steps.{Case, step_in}
use Rattle.step_check.specs.declared.verdict.Verdict.{Verdict}
use Rattle.tstp_trace.specs.declared.step.Step.{Step}
use Rattle.tstp_trace.specs.declared.step.Trace.{Trace}

-- a right trace with its origins, whose formulas are well-formed
pub record AreKnown (case : Case) (list : List Verdict) (origins : List Origin) : Type 0 where
  pub right : AreRightSteps case list
  pub symbols : HasItsSymbols case.problem
  pub origins_are : AreOrigins (judged_of case list) origins
  pub formed : AreWellFormed case.steps

-- each symbol of each step's formula is the problem's or a Skolem symbol
abbrev pub StepsAreOver : Type 0
StepsAreOver =
    (case : Case) (list : List Verdict) (origins : List Origin) → AreKnown case list origins
    → (i : ℕ) (step : Step) → step_in case.steps i ≡ Some step → Every (IsListed (known_symbols case.problem origins)) (formula_occurrences step.formula)

-- the instance's terms and literals are over these symbols
pub record IsInstanceOver (case : Case) (origins : List Origin) (it : Instance) : Type 0 where
  pub terms : Every (IsTermOver (known_symbols case.problem origins)) it.terms
  pub lits : Every (IsLiteralOver (known_symbols case.problem origins)) it.lits

-- so it is of each instance that a root needs
abbrev pub InstancesAreOver : Type 0
InstancesAreOver =
    (case : Case) (list : List Verdict) (origins : List Origin) → AreKnown case list origins
    → (root : ℕ) (instances : List Instance) → AreInstances (judged_of case list) root instances → Every (IsInstanceOver case origins) instances

-- the terms of the thin tree are over these symbols
pub record IsThinOver (case : Case) (origins : List Origin) (thin : Thin) : Type 0 where
  pub terms : Every (IsTermOver (known_symbols case.problem origins)) thin.terms
  pub skolems : Every (IsTermOver (known_symbols case.problem origins)) thin.skolems

-- so it is of the thin tree of such an instance
abbrev pub ThinsAreOver : Type 0
ThinsAreOver =
    (case : Case) (list : List Verdict) (origins : List Origin) → AreKnown case list origins
    → (it : Instance) (thin : Thin) → IsInstanceOver case origins it → IsThin (judged_of case list) it thin → IsThinOver case origins thin

-- the terms from which the needed Skolem terms come are well-formed
abbrev pub RootsAreWellFormed : Type 0
RootsAreWellFormed =
    (problem : Problem) (trace : Trace) (limit : ℕ) (plan : Plan) → IsPlan problem trace limit plan → HasItsSymbols problem → AreWellFormed trace.steps
    → HasWellFormedRoots plan
