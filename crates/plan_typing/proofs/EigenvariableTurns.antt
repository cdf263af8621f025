-- The eigenvariables of a proper plan are in turn.
use Rattle.std.proofs.Common.{ℕ}
use Rattle.std.specs.List.{Contains}
use Rattle.dk_syntax.specs.Lists.{Entry, Every}
use Rattle.dk_syntax.specs.declared.Problem.{Problem}
use Rattle.dk_syntax.specs.declared.term.Term.{Term}
use Rattle.ground_instances.specs.Lists.{instances_of}
use Rattle.nd_term.specs.Outputs.{place_of}
use Rattle.plan.proofs.FitOrigins.{origins_are_fit}
use Rattle.plan.proofs.OriginLaws.{origins_are_right}
use Rattle.plan.specs.Laws.{AreRightSteps}
use Rattle.plan.specs.OnePlan.{roots_of}
use Rattle.plan.specs.Origins.{AreFit, AreRight}
use Rattle.plan.specs.declared.plan.Plan.{Plan}
use Rattle.plan_symbols.specs.Laws.{AreKnown, InstancesAreOver, IsInstanceOver, ThinsAreOver}
use Rattle.plan_symbols.specs.Over.{IsTermOver, known_symbols}
use Rattle.plan_typing.proofs.LeavesOver.{origin_leaf_over}
use Rattle.plan_typing.proofs.NeededTerms.{have_functions, needed_over}
use Rattle.plan_typing.proofs.RootsOver.{roots_over}
use Rattle.plan_typing.proofs.Turns.{in_turn, needed_placed}
use Rattle.plan_typing.specs.Laws.{EigenvariablesAreInTurn, IsProperPlan}
use Rattle.skolem_order.specs.Order.{Needed}
use Rattle.skolem_order.specs.Rooted.{HaveFunctions}
use Rattle.step_check.specs.Steps.{Case, case_of}
use Rattle.tstp_trace.specs.declared.step.Trace.{Trace}

module _ (problem : Problem) (trace : Trace) (limit : ℕ) (plan : Plan) (h : IsProperPlan problem trace limit plan) where
  abbrev case : Case
  case = case_of problem trace plan.graph

  pub right_steps : AreRightSteps case plan.verdicts.list
  right_steps = record { are = h.plan_is.judged.verdicts; right = h.plan_is.right; acyclic = h.plan_is.judged.start.graph_is.1 }

  pub are_known : AreKnown case plan.verdicts.list plan.origins.list
  are_known = record { right = right_steps; symbols = h.proper.symbols; origins_are = h.plan_is.origins; formed = h.formed }

  pub right_origins : AreRight plan.origins.list
  right_origins = origins_are_right case plan.verdicts.list right_steps h.proper.symbols plan.origins.list h.plan_is.origins

  pub fit_origins : AreFit plan.origins.list
  fit_origins = origins_are_fit case plan.verdicts.list right_steps h.formed plan.origins.list h.plan_is.origins

  -- the Skolem symbols are functions
  pub plan_functions : HaveFunctions plan.origins.list
  plan_functions = have_functions problem plan.origins.list right_origins.rooted fit_origins

  module _ (instances_are : InstancesAreOver) (thins_are : ThinsAreOver) where
    pub plan_instances_over : Every (IsInstanceOver case plan.origins.list) (instances_of plan.instances)
    plan_instances_over = instances_are case plan.verdicts.list plan.origins.list are_known plan.root (instances_of plan.instances) h.plan_is.instances.0

    -- the terms from which the needed ones come are over the known symbols, and so are these
    pub plan_roots_over : (t : Term) → Contains (roots_of plan) t → IsTermOver (known_symbols problem plan.origins.list) t
    plan_roots_over =
        roots_over case plan.origins.list plan.verdicts.list (thins_are case plan.verdicts.list plan.origins.list are_known) (instances_of plan.instances) plan.thins
        plan_instances_over h.plan_is.thins

    pub plan_needed_over : (t : Term) → Needed plan.origins.list (roots_of plan) t → IsTermOver (known_symbols problem plan.origins.list) t
    plan_needed_over t n = needed_over problem plan.origins.list right_origins.rooted fit_origins (roots_of plan) plan_roots_over n

    -- each needed term stands at its place in the order
    pub plan_placed : (t : Term) → Needed plan.origins.list (roots_of plan) t → Entry plan.order (place_of plan.order t) t
    plan_placed t n = needed_placed problem plan.origins.list (roots_of plan) plan.order right_origins.rooted fit_origins plan_roots_over h.plan_is.order t n

pub eigenvariables_turn : InstancesAreOver → ThinsAreOver → EigenvariablesAreInTurn
eigenvariables_turn instances_are thins_are problem trace limit plan h =
    in_turn problem plan.origins.list (roots_of plan) plan.order (right_origins problem trace limit plan h).rooted (fit_origins problem trace limit plan h)
    (plan_roots_over problem trace limit plan h instances_are thins_are) h.plan_is.order
    (origin_leaf_over (case_of problem trace plan.graph) plan.verdicts.list (right_steps problem trace limit plan h) h.proper plan.origins.list h.plan_is.origins)
