-- A derivation has one report on its expansion.
use Rattle.std.proofs.Common.{◌≡◌, ℕ, Ok, sym, ◌∙◌, ap}
use Rattle.derivation_graph.specs.Graphs.{HasNoCycle}
use Rattle.dk_syntax.specs.Problems.{HasItsSymbols}
use Rattle.extract.specs.ExpansionReport.{report_text}
use Rattle.plan.proofs.OnePlan.{plans_are_one}
use Rattle.plan.specs.Laws.{AreWellFormed}
use Rattle.plan.specs.Plans.{IsPlan}
use Rattle.plan.specs.declared.plan.Plan.{Plan}
use Rattle.plan_symbols.specs.Laws.{RootsAreWellFormed}
use Rattle.dk_cli.specs.Expansion.{IsExpanded}
use Rattle.dk_cli.specs.Planning.{IsPlanOf}
use Rattle.dk_cli.specs.declared.derivation.Derivation.{Derivation}
use Rattle.dk_cli.specs.declared.refusal.Refusal.TheVariants.{Memory}
use Rattle.dk_cli.proofs.OneReport.{one_report}
use Rattle.dk_cli.proofs.PlanningLaws.{plan_found, plan_refuses}
use Rattle.dk_cli.proofs.StageLaws.{IsOne, one_of_refusing}

module _ (roots : RootsAreWellFormed) (limit : ℕ) (d : Derivation) (acyclic : HasNoCycle d.graph.parents) (symbols : HasItsSymbols d.problem) (formed : AreWellFormed d.trace.steps) where
  report_same : (one other : Plan) → IsPlan d.problem d.trace limit one → IsPlan d.problem d.trace limit other → report_text d.trace.steps one ≡ report_text d.trace.steps other
  report_same one other h k =
      one_report d.trace one other (plans_are_one d.problem d.trace limit one other h k) formed (roots d.problem d.trace limit one h symbols formed)

  pub one_expanded : IsOne Memory (IsExpanded limit d)
  one_expanded =
      one_of_refusing (IsPlanOf limit d) (λ plan end. end ≡ Ok (report_text d.trace.steps plan)) (plan_refuses limit d acyclic)
      (λ x y found another one other h k not_one not_other. h ∙ ap Ok (report_same x y (plan_found limit d x found) (plan_found limit d y another)) ∙ sym k)
