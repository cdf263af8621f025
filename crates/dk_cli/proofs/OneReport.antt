-- Plans that are alike have one report.
use Rattle.std.proofs.Common.{◌≡◌, ℕ, suc, ◌-◌, List, [], ◌∷◌, ◌++◌, slice_get, refl, ap, ap₂, ◌∙◌}
use Rattle.extract.specs.ExpansionReport.{eigens_from, instance_lines, instance_text, instances_from, item_under, report_text, tree_in, tree_text, weight_text}
use Rattle.ground_instances.specs.Lists.{instances_of}
use Rattle.ground_instances.specs.declared.instance.Instance.{Instance}
use Rattle.plan.specs.Laws.{AreWellFormed}
use Rattle.plan.specs.OnePlan.{AreAlikePlans, HasWellFormedRoots}
use Rattle.plan.specs.declared.plan.Plan.{Plan}
use Rattle.tstp_trace.specs.declared.Step.{Step}
use Rattle.tstp_trace.specs.declared.Trace.{Trace}

module _ (steps : List Step) (one other : Plan) (maps : one.maps ≡ other.maps) (thins : one.thins ≡ other.thins) where
  lines_same : (place : ℕ) (it : Instance) → instance_lines steps one place it ≡ instance_lines steps other place it
  lines_same place it =
      ap₂ (λ m t. instance_text place it ++ tree_text place (item_under steps (slice_get m (it.step - 1))) (tree_in (slice_get t place))) maps thins

  instances_same : (place : ℕ) (instances : List Instance) → instances_from steps one place instances ≡ instances_from steps other place instances
  instances_same place [] = refl
  instances_same place (it ∷ instances) = ap₂ (λ a b. a ++ b) (lines_same place it) (instances_same (suc place) instances)

pub one_report : (trace : Trace) (one other : Plan) → AreAlikePlans trace one other → AreWellFormed trace.steps → HasWellFormedRoots one
    → report_text trace.steps one ≡ report_text trace.steps other
one_report trace one other alike formed roots =
    ap₂ (λ origins order. eigens_from origins 0 order ++ instances_from trace.steps one 0 (instances_of one.instances) ++ weight_text one.weight) alike.origins (alike.order formed roots)
    ∙ ap (λ text. eigens_from other.origins.list 0 other.order ++ text ++ weight_text one.weight) (instances_same trace.steps one other alike.maps alike.thins 0 (instances_of one.instances))
    ∙ ap₂ (λ instances weight. eigens_from other.origins.list 0 other.order ++ instances_from trace.steps other 0 instances ++ weight_text weight) alike.instances alike.weight
