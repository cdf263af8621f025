-- The refusals of the stages are refusals of the plan.
use Rattle.std.proofs.Common.{◌≡◌, ℕ, List, None, Result, Ok, Err, IfOk, refl, sym, subst}
use Rattle.derivation_graph.specs.Graphs.{IsGraphAnswer}
use Rattle.derivation_graph.specs.declared.graph.Graph.{Graph}
use Rattle.derivation_graph.specs.declared.graph.GraphFault.{GraphFault}
use Rattle.derivation_graph.specs.declared.graph.GraphFault.TheVariants as graph
use Rattle.dk_syntax.specs.declared.Problem.{Problem}
use Rattle.ground_instances.specs.Instances.{IsPullAnswer}
use Rattle.ground_instances.specs.Keys.{Judged}
use Rattle.ground_instances.specs.Lists.{answer_of, HasExactTable}
use Rattle.ground_instances.specs.declared.instance.Instances.{Instances}
use Rattle.ground_instances.specs.declared.instance.PullFault.{PullFault}
use Rattle.ground_instances.specs.declared.instance.PullFault.TheVariants as pull
use Rattle.plan.specs.Plans.{AreJudged, fault_of, graph_told, IsBadFault, IsGraphStage, IsPlanFault, IsPullFault, IsPullStage, judged_in, pull_told}
use Rattle.plan.specs.declared.plan.PlanFault.{PlanFault}
use Rattle.plan.specs.declared.plan.PlanFault.TheVariants.{Cycle, Memory, MissingParent, NoRefutation, Over, OverWeight, OverWide, Wrong}
use Rattle.step_check.specs.Freshness.{IsFirstBad}
use Rattle.step_check.specs.Steps.{nodes_of}
use Rattle.step_check.specs.declared.verdict.Verdict.{Verdict}
use Rattle.tstp_trace.specs.declared.step.Trace.{Trace}

-- the answer on the nodes is that of the first stage
pub graph_stage : (trace : Trace) (found : Result Graph GraphFault) → IsGraphAnswer (nodes_of trace) found → IsGraphStage trace (graph_told found)
graph_stage trace (Ok found) h = h
graph_stage trace (Err (graph.MissingParent step name)) h = h
graph_stage trace (Err (graph.Cycle step)) h = h
graph_stage trace (Err graph.Memory) h = tt

-- so is that on the instances
pub pull_stage : (judged : Judged) (root limit : ℕ) (found : Result Instances PullFault) → IsPullAnswer judged root limit (answer_of found) → IfOk found HasExactTable
    → IsPullStage judged root limit (pull_told found)
pull_stage judged root limit (Ok instances) h table = record { answer = h; table = table }
pull_stage judged root limit (Err fault) h table = (fault, h, refl)

module _ (problem : Problem) (trace : Trace) (limit : ℕ) where
  pub graph_refused : (fault : PlanFault) → IsGraphStage trace (Err fault) → IsPlanFault problem trace limit fault
  graph_refused (MissingParent step name) h = h
  graph_refused (Cycle step) h = h
  graph_refused NoRefutation h = absurd h
  graph_refused (Wrong step reason) h = absurd h
  graph_refused (Over step over) h = absurd h
  graph_refused (OverWeight weight) h = absurd h
  graph_refused (OverWide step) h = absurd h
  graph_refused Memory h = tt

  module _ (found : Graph) (root : ℕ) (list : List Verdict) (judged : AreJudged problem trace found root list) where
    pub bad_told : (fault : PlanFault) → IsBadFault list fault → IsPlanFault problem trace limit fault
    bad_told (MissingParent step name) h = absurd h
    bad_told (Cycle step) h = absurd h
    bad_told NoRefutation h = absurd h
    bad_told (Wrong step reason) h = (found, root, list, judged, h.0, h.1)
    bad_told (Over step over) h = (found, root, list, judged, h.0, h.1)
    bad_told (OverWeight weight) h = absurd h
    bad_told (OverWide step) h = absurd h
    bad_told Memory h = tt

    by_refusal : IsFirstBad list None → (refused : PullFault) → IsPullAnswer (judged_in problem trace found list) root limit (Err refused) → (fault : PlanFault)
        → fault ≡ fault_of refused → IsPlanFault problem trace limit fault
    by_refusal none (pull.OverWeight weight) h fault e = subst (IsPlanFault problem trace limit) (sym e) (found, root, list, judged, none, h)
    by_refusal none (pull.OverWide step) h fault e = subst (IsPlanFault problem trace limit) (sym e) (found, root, list, judged, none, h)
    by_refusal none pull.Memory h fault e = subst (IsPlanFault problem trace limit) (sym e) tt

    pub pull_refused : IsFirstBad list None → (fault : PlanFault) → IsPullFault (judged_in problem trace found list) root limit fault → IsPlanFault problem trace limit fault
    pull_refused none fault (refused, h, e) = by_refusal none refused h fault e
