-- The plan of a derivation: what the one call answers is what its stages answer, one after the other.
use Rattle.std.proofs.Common.{◌≡◌, ◌≢◌, ℕ, List, Ok, Err, None, Some, refl, sym, ◌∙◌, ap, subst}
use Rattle.std.specs.declared.result.Result.{Result}
use Rattle.derivation_graph.proofs.AnswerLaws.{one_graph, one_root}
use Rattle.derivation_graph.specs.Graphs.{HasNoCycle, IsGraphAnswer}
use Rattle.derivation_graph.specs.declared.Graph.{Graph}
use Rattle.derivation_graph.specs.declared.GraphFault.{GraphFault}
use Rattle.derivation_graph.specs.declared.GraphFault.TheVariants as graph_fault
use Rattle.dk_syntax.specs.declared.Problem.{Problem}
use Rattle.ground_instances.specs.Instances.{IsPullAnswer}
use Rattle.ground_instances.specs.Lists.{instances_of}
use Rattle.ground_instances.specs.declared.instance.Instance.{Instance}
use Rattle.ground_instances.specs.declared.instance.PullFault.{PullFault}
use Rattle.ground_instances.specs.declared.instance.PullFault.TheVariants as pull_fault
use Rattle.plan.specs.Plans.{AreJudged, IsPlan, IsPlanAnswer, barred_in, formulas_in, judged_in}
use Rattle.plan.specs.declared.plan.Plan.{Plan}
use Rattle.plan.specs.declared.plan.PlanFault.{PlanFault}
use Rattle.plan.specs.declared.plan.PlanFault.TheVariants as plan_fault
use Rattle.step_check.specs.Freshness.{IsFirstBad}
use Rattle.step_check.specs.Steps.{nodes_of}
use Rattle.step_check.specs.declared.verdict.Verdict.{Verdict}
use Rattle.step_check.specs.declared.verdict.Verdicts.{Verdicts}
use Rattle.tstp_trace.specs.declared.Trace.{Trace}
use Rattle.dk_cli.specs.Judging.{AreRight, IsJudged}
use Rattle.dk_cli.specs.Planning.{IsBoundedPlan, IsPlanned, IsPlanOf, IsRightPlan, IsRootIn, planning_refusal, root_told}
use Rattle.dk_cli.specs.Stages.{Answered, told_by}
use Rattle.dk_cli.specs.Weight.{IsWeighed, weight_told}
use Rattle.dk_cli.specs.declared.derivation.Derivation.{Derivation}
use Rattle.dk_cli.specs.declared.refusal.Refusal.{Refusal}
use Rattle.dk_cli.specs.declared.refusal.Refusal.TheVariants as refusal
use Rattle.dk_cli.specs.declared.refusal.StepFault.{StepFault}
use Rattle.dk_cli.specs.declared.refusal.StepFault.TheVariants as step_fault
use Rattle.dk_cli.proofs.DerivationLaws.{IsLater}
use Rattle.dk_cli.proofs.JudgingLaws.{AreRightOf, judged_later, judged_right, one_judged}
use Rattle.dk_cli.proofs.StageLaws.{IsOne, Only, RefusesOne, follows_found, found_same, only_follows, refusing_of_found}
use Rattle.dk_cli.proofs.WeightLaws.{one_weighed, weighed_later}

-- ---- the stages answer as the one call

module _ (d : Derivation) (graphed : IsGraphAnswer (nodes_of d.trace) (Ok d.graph)) (limit : ℕ) where
  -- the trace has one graph
  same_graph : (graph : Graph) → IsGraphAnswer (nodes_of d.trace) (Ok graph) → graph ≡ d.graph
  same_graph graph h = found_same {F = GraphFault} graph d.graph (one_graph (nodes_of d.trace) (Ok graph) (Ok d.graph) h graphed (λ e. cc) (λ e. cc))

  never : (fault : GraphFault) → fault ≢ graph_fault.Memory → (let r : Result Graph GraphFault = Err fault in IsGraphAnswer (nodes_of d.trace) r) → ⊥
  never fault is h =
      let same = one_graph (nodes_of d.trace) (Err fault) (Ok d.graph) h graphed (λ e. is cc) (λ e. cc) in cc

  judged_here : (graph : Graph) (root : ℕ) (list : List Verdict) → AreJudged d.problem d.trace graph root list → AreJudged d.problem d.trace d.graph root list
  judged_here graph root list judged = subst (λ g. AreJudged d.problem d.trace g root list) (same_graph graph judged.start.graph_is) judged

  pulled_here : (graph : Graph) (root : ℕ) (list : List Verdict) (found : Result (List Instance) PullFault) → IsGraphAnswer (nodes_of d.trace) (Ok graph)
      → IsPullAnswer (judged_in d.problem d.trace graph list) root limit found → IsPullAnswer (judged_in d.problem d.trace d.graph list) root limit found
  pulled_here graph root list found is = subst (λ g. IsPullAnswer (judged_in d.problem d.trace g list) root limit found) (same_graph graph is)

  module _ (graph : Graph) (root : ℕ) (list : List Verdict) (judged : AreJudged d.problem d.trace graph root list) where
    -- a step is bad
    bad_told : (step : ℕ) (fault : StepFault) → AreRight list (Err (refusal.Step step fault)) → IsPlanOf limit d (Err (refusal.Step step fault))
    bad_told step fault bad =
        let here = judged_here graph root list judged in (
          Ok root,
          (Some root, here.start.root_is, refl),
          (Err (refusal.Step step fault), (record { list = list }, here.verdicts, (Err (refusal.Step step fault), bad, refl)), refl),
        )

    -- the instances are refused
    pull_told : IsFirstBad list None → (fault : PullFault) (why : Refusal) → IsPullAnswer (judged_in d.problem d.trace graph list) root limit (Err fault)
        → weight_told (Err fault) ≡ Err why → IsPlanOf limit d (Err why)
    pull_told right fault why pulled told =
        let here = judged_here graph root list judged in (
          Ok root,
          (Some root, here.start.root_is, refl),
          (
            Ok (record { list = list }),
            (record { list = list }, here.verdicts, (Ok tt, right, refl)),
            (Err why, (Err fault, pulled_here graph root list (Err fault) judged.start.graph_is pulled, sym told), refl),
          ),
        )

  pub plan_told : (found : Result Plan PlanFault) → IsPlanAnswer d.problem d.trace limit found → Answered (IsPlanOf limit d) (told_by planning_refusal found)
  plan_told (Ok plan) h =
      let here = judged_here plan.graph plan.root plan.verdicts.list h.judged in (
        Ok plan.root,
        (Some plan.root, here.start.root_is, refl),
        (
          Ok plan.verdicts,
          (plan.verdicts, here.verdicts, (Ok tt, h.right, refl)),
          (Ok tt, (Ok (instances_of plan.instances), pulled_here plan.graph plan.root plan.verdicts.list (Ok (instances_of plan.instances)) h.judged.start.graph_is h.instances, refl), h),
        ),
      )
  plan_told (Err (plan_fault.MissingParent step name)) h = absurd (never (graph_fault.MissingParent step name) (λ e. cc) h)
  plan_told (Err (plan_fault.Cycle step)) h = absurd (never (graph_fault.Cycle step) (λ e. cc) h)
  plan_told (Err plan_fault.NoRefutation) (graph, is, none) = (Err refusal.NoRefutation, (None, none, refl), refl)
  plan_told (Err (plan_fault.Wrong step reason)) (graph, root, list, judged, first, at) = bad_told graph root list judged step (step_fault.Wrong reason) (first, at)
  plan_told (Err (plan_fault.Over step over)) (graph, root, list, judged, first, at) = bad_told graph root list judged step (step_fault.Over over) (first, at)
  plan_told (Err (plan_fault.OverWeight weight)) (graph, root, list, judged, right, pulled) =
      pull_told graph root list judged right (pull_fault.OverWeight weight) (refusal.OverWeight weight) pulled refl
  plan_told (Err (plan_fault.OverWide step)) (graph, root, list, judged, right, pulled) =
      pull_told graph root list judged right (pull_fault.OverWide step) (refusal.OverWide step) pulled refl
  plan_told (Err plan_fault.Memory) h = tt

-- ---- what was found

module _ (limit : ℕ) (d : Derivation) where
  pub plan_found : (plan : Plan) → IsPlanOf limit d (Ok plan) → IsPlan d.problem d.trace limit plan
  plan_found plan h =
      let rooted = follows_found (IsRootIn d.problem d.trace) (IsRightPlan d limit) plan h in
      let right = follows_found (IsJudged d) (IsBoundedPlan d limit rooted.0) plan rooted.2 in
      let bounded = follows_found (IsWeighed d limit rooted.0 right.0) (λ nothing. IsPlanned d limit) plan right.2 in
      bounded.2

  pub plan_verdicts : (plan : Plan) → IsPlanOf limit d (Ok plan) → (verdicts : Verdicts) × AreRightOf d verdicts
  plan_verdicts plan h =
      let rooted = follows_found (IsRootIn d.problem d.trace) (IsRightPlan d limit) plan h in
      let right = follows_found (IsJudged d) (IsBoundedPlan d limit rooted.0) plan rooted.2 in
      (right.0, judged_right d right.0 right.1)

-- ---- one refusal

pub one_root_in : (problem : Problem) (trace : Trace) → IsOne refusal.Memory (IsRootIn problem trace)
one_root_in problem trace one other (found, h, e) (another, k, f) not_one not_other =
    e ∙ ap root_told (one_root (formulas_in trace) (barred_in problem trace) found another h k) ∙ sym f

module _ (limit : ℕ) (d : Derivation) (acyclic : HasNoCycle d.graph.parents) where
  planned_refuses : RefusesOne (IsPlanned d limit)
  planned_refuses (Ok one) (Ok other) h k not_one not_other = tt
  planned_refuses (Ok one) (Err why) h k not_one not_other = absurd k
  planned_refuses (Err why) other h k not_one not_other = absurd h

  bounded_refuses : (root : ℕ) (verdicts : Verdicts) → IsJudged d (Ok verdicts) → RefusesOne (IsBoundedPlan d limit root verdicts)
  bounded_refuses root verdicts judged =
      refusing_of_found (IsWeighed d limit root verdicts) (λ nothing. IsPlanned d limit) (one_weighed d acyclic limit root verdicts judged) (λ nothing weighed. planned_refuses)

  right_refuses : (root : ℕ) → RefusesOne (IsRightPlan d limit root)
  right_refuses root = refusing_of_found (IsJudged d) (IsBoundedPlan d limit root) (one_judged d) (bounded_refuses root)

  pub plan_refuses : RefusesOne (IsPlanOf limit d)
  plan_refuses = refusing_of_found (IsRootIn d.problem d.trace) (IsRightPlan d limit) (one_root_in d.problem d.trace) (λ root rooted. right_refuses root)

-- ---- what no plan is refused for

pub root_later : (problem : Problem) (trace : Trace) (answer : Result ℕ Refusal) → IsRootIn problem trace answer → Only IsLater answer
root_later problem trace answer (None, h, e) = subst (Only IsLater) (sym e) tt
root_later problem trace answer (Some root, h, e) = subst (Only IsLater) (sym e) tt

module _ (limit : ℕ) (d : Derivation) where
  planned_later : (answer : Result Plan Refusal) → IsPlanned d limit answer → Only IsLater answer
  planned_later (Ok plan) h = tt
  planned_later (Err why) h = absurd h

  bounded_later : (root : ℕ) (verdicts : Verdicts) (answer : Result Plan Refusal) → IsBoundedPlan d limit root verdicts answer → Only IsLater answer
  bounded_later root verdicts =
      only_follows IsLater (IsWeighed d limit root verdicts) (λ nothing. IsPlanned d limit) (weighed_later d limit root verdicts) (λ nothing. planned_later)

  right_later : (root : ℕ) (answer : Result Plan Refusal) → IsRightPlan d limit root answer → Only IsLater answer
  right_later root = only_follows IsLater (IsJudged d) (IsBoundedPlan d limit root) (judged_later d) (bounded_later root)

  pub plan_later : (answer : Result Plan Refusal) → IsPlanOf limit d answer → Only IsLater answer
  plan_later = only_follows IsLater (IsRootIn d.problem d.trace) (IsRightPlan d limit) (root_later d.problem d.trace) right_later
