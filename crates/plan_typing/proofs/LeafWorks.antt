-- The instances with thin trees hold by their leaves.
use Rattle.std.proofs.Common.{◌≡◌, ℕ, Bool, true, false, List, map, slice_get, Contains, Option, Some, None, refl, sym, ap, ◌∙◌, subst}
use Rattle.std.specs.List.{All}
use Rattle.assemble.proofs.FittingLaws.{trees_fit}
use Rattle.assemble.proofs.ProblemLaws.{signature_extends}
use Rattle.assemble.specs.Fitting.{eigenvariables_of, symbols_of, tree_of}
use Rattle.assemble.specs.Justification.{Reason, Works, by_leaf, works_denied, works_leaf}
use Rattle.assemble.specs.Problem.{problem_signature, theory_conclusion, theory_formulas, theory_symbol}
use Rattle.dk_syntax.specs.Problems.{formulas_of}
use Rattle.dk_syntax.specs.declared.Problem.{Problem}
use Rattle.dk_syntax.specs.declared.clause.Literal.{Literal as ProgramLiteral}
use Rattle.dk_syntax.specs.declared.formula.Formula.{Formula as ProgramFormula}
use Rattle.expansion.proofs.Everywhere.{every_only}
use Rattle.expansion.specs.Rows.{ground_clause}
use Rattle.expansion.specs.declared.thin.Thin.{Thin}
use Rattle.ground_instances.specs.Instances.{IsInstance, keys_of}
use Rattle.ground_instances.specs.Keys.{Judged}
use Rattle.ground_instances.specs.Lists.{instances_of}
use Rattle.ground_instances.specs.declared.instance.Instance.{Instance}
use Rattle.lp_term.specs.Typing.{Declaration}
use Rattle.nd_term.specs.Eigenvariables.{Eigenvariable}
use Rattle.nd_term.specs.Formulas.{Formula, Literal, unassigned}
use Rattle.nd_term.specs.Outputs.{output_clause}
use Rattle.nd_term.specs.ThinTrees.{Fits}
use Rattle.nd_term.specs.Views.{theory_formula}
use Rattle.plan.proofs.Membership.{Among, among, contained}
use Rattle.plan.proofs.OriginLaws.{maps_are_sourced}
use Rattle.plan.proofs.StepMaps.{map_one, verdict_of}
use Rattle.plan.specs.Laws.{AreRightSteps}
use Rattle.plan.specs.Maps.{HasLeaf, IsMapAnswer, IsMapOf, IsStepMap, leaf_of, map_at, to_form, to_image}
use Rattle.plan.specs.Plans.{judged_in}
use Rattle.plan.specs.Thins.{IsThin}
use Rattle.plan.specs.declared.maps.StepMap.{StepMap}
use Rattle.plan.specs.declared.plan.Plan.{Plan}
use Rattle.plan_symbols.specs.Laws.{InstancesAreOver, IsThinOver, ThinsAreOver}
use Rattle.plan_typing.proofs.LeafGround.{instance_ground}
use Rattle.plan_typing.proofs.EigenvariableTurns.{are_known, plan_instances_over, plan_placed, right_origins, right_steps}
use Rattle.plan_typing.proofs.GroundLaws.{term_ground}
use Rattle.plan_typing.proofs.LeavesOver.{map_known}
use Rattle.plan_typing.proofs.LeafItems.{IsItem, conjectured, hypothesis_entry, hypothesis_formula, item_of}
use Rattle.plan_typing.proofs.LeafLists.{every_among}
use Rattle.plan_typing.proofs.LeafPlaces.{met_skolem, skolems_placed}
use Rattle.plan_typing.proofs.LeafPlain.{plain_formula}
use Rattle.plan_typing.proofs.LeafRows.{IsOfRow, row_grounded, row_of}
use Rattle.plan_typing.specs.Laws.{IsProperPlan}
use Rattle.plan_typing.specs.Reasons.{formula_at, leaf_name, name_of_step, place_named, reason_of, reason_of_leaf, reason_of_tree, theory_instance}
use Rattle.skolem_order.proofs.MeetingLaws.{trees_meet_origins}
use Rattle.skolem_order.specs.Laws.{MeetsIn}
use Rattle.step_check.specs.Steps.{Case, case_of, step_in}
use Rattle.step_skolem.specs.declared.map.SkEntry.{SkEntry}
use Rattle.tstp_trace.specs.declared.step.Step.{Step}
use Rattle.tstp_trace.specs.declared.step.Trace.{Trace}

all_at : {A : Type 0} (P : A → Type 0) (l : List A) (x : A) → All P l → Contains l x → P x
all_at P l x h (k, below, is) = subst P is (h k x below)

module _ (problem : Problem) (trace : Trace) (limit : ℕ) (plan : Plan) (proper : IsProperPlan problem trace limit plan) where
  abbrev case : Case
  case = case_of problem trace plan.graph

  abbrev judged : Judged
  judged = judged_in problem trace plan.graph plan.verdicts.list

  abbrev sig : List Declaration
  sig = problem_signature problem.symbols

  abbrev eigens : List Eigenvariable
  eigens = eigenvariables_of plan.origins.list plan.order

  abbrev clause_of : Instance → List Literal
  clause_of it = output_clause (symbols_of plan.origins.list) plan.order it.lits

  abbrev right : AreRightSteps case plan.verdicts.list
  right = right_steps problem trace limit plan proper

  -- ---- the item of a leaf

  leaf_item : {i : ℕ} {f : ProgramFormula} {sign : Bool} → (leaf : HasLeaf judged i f sign) → (step : Step) → step_in trace.steps leaf.base ≡ Some step → IsItem problem step sign
  leaf_item leaf step at =
      subst (IsItem problem step) leaf.signed
      (item_of case (verdict_of case plan.verdicts.list right.are right.right right.acyclic leaf.base leaf.verdict leaf.here) leaf.leaf step at)

  map_item : {i : ℕ} {f : ProgramFormula} {sign : Bool} {entries : List SkEntry} → (maps : IsMapOf judged i f sign entries) → (step : Step)
      → step_in trace.steps (leaf_of judged maps) ≡ Some step → IsItem problem step sign
  map_item (to_form a) step at = leaf_item a.leaf step at
  map_item (to_image a) step at = leaf_item a.leaf step at

  -- the plan's map of a step that has one
  plan_map : {i : ℕ} {f : ProgramFormula} {sign : Bool} {entries : List SkEntry} → IsMapOf judged i f sign entries → (answer : Option StepMap) → map_at plan.maps i ≡ answer
      → IsMapAnswer judged i answer → (m : StepMap) × (map_at plan.maps i ≡ Some m) × IsStepMap judged i m
  plan_map {i} {f} {sign} {entries} maps None e h = absurd (h f sign entries maps)
  plan_map maps (Some m) e h = (m, e, h)

  -- ---- one instance

  module _ (instances_over : InstancesAreOver) (thins_over : ThinsAreOver) (it : Instance) (there : Among (instances_of plan.instances) it) (thin : Thin) (thin_is : IsThin judged it thin) where
    -- the terms of the tree are over the known symbols
    over : IsThinOver case plan.origins.list thin
    over =
        thins_over case plan.verdicts.list plan.origins.list (are_known problem trace limit plan proper) it thin
        (every_among (instances_of plan.instances) (plan_instances_over problem trace limit plan proper instances_over thins_over) there) thin_is

    is_instance : IsInstance judged (keys_of (instances_of plan.instances)) it
    is_instance =
        all_at (IsInstance judged (keys_of (instances_of plan.instances))) (instances_of plan.instances) it proper.plan_is.instances.0.each
        (contained (instances_of plan.instances) it there)

    row : IsOfRow case plan.verdicts.list it thin
    row = row_of case plan.verdicts.list right (keys_of (instances_of plan.instances)) it thin is_instance thin_is

    leaf_there : Among (formulas_of problem) row.leaf
    leaf_there = map_known case plan.verdicts.list right row.maps

    meets : MeetsIn plan.origins.list row.leaf thin.sign thin it.lits
    meets =
        let grounded = row_grounded case plan.verdicts.list it thin row (every_among (formulas_of problem) proper.proper.closed leaf_there)
        (instance_ground judged plan.root (instances_of plan.instances) proper.plan_is.instances.0 it there) in
        let sourced =
        maps_are_sourced case plan.verdicts.list right proper.proper.symbols plan.origins.list proper.plan_is.origins it.step row.leaf row.sign row.entries row.maps in
        let met = trees_meet_origins plan.origins.list row.leaf row.sign row.entries row.row it.terms (right_origins problem trace limit plan proper).rooted sourced grounded in
        let tree = subst (λ x. MeetsIn plan.origins.list row.leaf row.sign x (ground_clause row.row it.terms)) (sym row.tree) met in
        let signed = subst (λ b. MeetsIn plan.origins.list row.leaf b thin (ground_clause row.row it.terms)) (sym (ap (λ (x : Thin). x.sign) row.tree)) tree in
        subst (λ (l : List ProgramLiteral). MeetsIn plan.origins.list row.leaf thin.sign thin l) (sym row.lits) signed

    abbrev FitsBy : Bool → Formula → ProgramFormula → Type 0
    FitsBy b f g = Fits sig eigens b f unassigned (tree_of plan.origins.list plan.order g thin) (clause_of it)

    leaf_fits : FitsBy thin.sign (theory_formula row.leaf) row.leaf
    leaf_fits =
        trees_fit sig plan.origins.list plan.order row.leaf thin it.lits (signature_extends (map theory_symbol problem.symbols)) meets
        (plain_formula case plan.verdicts.list right plan.origins.list proper.plan_is.origins proper.proper.symbols plan.order row.leaf leaf_there)
        (every_only (term_ground problem plan.origins.list plan.order) over.terms)
        (skolems_placed case plan.verdicts.list right plan proper.plan_is.thins (plan_placed problem trace limit plan proper instances_over thins_over) it thin there thin_is (met_skolem meets))

    module _ (known : List (List Literal)) where
      abbrev WorksBy : Reason → Type 0
      WorksBy by = Works sig eigens (theory_formulas problem.hyps) (theory_conclusion problem.conjecture) known (clause_of it) by

      abbrev place_in : Option Step → ℕ
      place_in step = place_named problem.hyps (name_of_step step)

      -- the reason by the hypothesis at that place
      abbrev by_place : ℕ → Reason
      by_place n =
          let f = formula_at (slice_get problem.hyps n) in by_leaf n (theory_formula f) (tree_of plan.origins.list plan.order f thin)

      by_sign : (m : StepMap) (step : Step) (b : Bool) → step_in trace.steps m.leaf ≡ Some step → IsItem problem step b → FitsBy b (theory_formula step.formula) step.formula
          → WorksBy (reason_of_leaf problem trace plan thin m b)
      by_sign m step true at item fits =
          let place = place_named problem.hyps (leaf_name step.source) in
          let works : WorksBy (by_leaf place (theory_formula step.formula) (tree_of plan.origins.list plan.order step.formula thin)) =
          works_leaf (hypothesis_entry problem step item) fits in
          let here : WorksBy (by_place place) =
          subst (λ f. WorksBy (by_leaf place (theory_formula f) (tree_of plan.origins.list plan.order f thin))) (sym (hypothesis_formula problem step item)) works in
          subst (λ o. WorksBy (by_place (place_in o))) (sym at) here
      by_sign m step false at item fits =
          let c = conjectured problem step proper.names item in
          works_denied (subst (λ f. FitsBy false (theory_conclusion problem.conjecture) f) (sym c.formula) (subst (λ f. FitsBy false f step.formula) (sym c.theory) fits))

      by_map : (m : StepMap) → IsStepMap judged it.step m → WorksBy (reason_of_tree problem trace plan thin (Some m))
      by_map m k =
          let one = map_one case plan.verdicts.list right.are right.right right.acyclic row.maps k.maps in
          let signed : thin.sign ≡ m.sign = ap (λ (x : Thin). x.sign) row.tree ∙ one.sign in
          let item = map_item k.maps k.step (ap (step_in trace.steps) k.based ∙ k.stands) in
          by_sign m k.step m.sign k.stands item (subst (λ b. FitsBy b (theory_formula k.step.formula) k.step.formula) signed
          (subst (λ f. FitsBy thin.sign (theory_formula f) f) one.formula leaf_fits))

      tree_works : WorksBy (reason_of problem trace plan it (Some thin))
      tree_works =
          let m = plan_map row.maps (map_at plan.maps it.step) refl (proper.plan_is.maps.each it.step) in
          subst (λ o. WorksBy (reason_of_tree problem trace plan thin o)) (sym m.1) (by_map m.0 m.2)

-- an instance of a plan with a thin tree has its reason, whatever is known before
pub works_by_tree : InstancesAreOver → ThinsAreOver
    → (problem : Problem) (trace : Trace) (limit : ℕ) (plan : Plan) → IsProperPlan problem trace limit plan
    → (it : Instance) (thin : Thin) → Contains (instances_of plan.instances) it → IsThin (judged_in problem trace plan.graph plan.verdicts.list) it thin
    → (known : List (List Literal))
    → Works (problem_signature problem.symbols) (eigenvariables_of plan.origins.list plan.order) (theory_formulas problem.hyps) (theory_conclusion problem.conjecture) known
    (theory_instance problem trace plan it (Some thin)).clause (theory_instance problem trace plan it (Some thin)).by
works_by_tree instances_over thins_over problem trace limit plan proper it thin there is known =
    tree_works problem trace limit plan proper instances_over thins_over it (among (instances_of plan.instances) it there) thin is known
