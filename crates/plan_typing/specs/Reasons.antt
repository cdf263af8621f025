-- The instances of a plan as those of the theory.
use Rattle.std.specs.Prelude.{ℕ, zero, suc, Bool, true, false, List, [], ◌∷◌, slice_get, get_or, length, unwrap_or, Option, Some, None}
use Rattle.std.specs.List.{position}
use Rattle.assemble.specs.Fitting.{symbols_of, tree_of}
use Rattle.assemble.specs.Justification.{Instance as TheoryInstance, Reason, by_denied, by_leaf, by_resolve, by_same, by_subsume}
use Rattle.assemble.specs.Problem.{theory_conclusion}
use Rattle.dk_syntax.specs.declared.Named.{Named}
use Rattle.dk_syntax.specs.declared.Problem.{Problem}
use Rattle.dk_syntax.specs.declared.formula.Formula.{Formula}
use Rattle.dk_syntax.specs.declared.formula.Formula.TheVariants as formula
use Rattle.dk_syntax.specs.declared.clause.Literal.{Literal}
use Rattle.expansion.specs.declared.thin.Thin.{Thin}
use Rattle.ground_instances.specs.Instances.{clauses_in}
use Rattle.ground_instances.specs.Keys.{verdict_in}
use Rattle.ground_instances.specs.Lists.{instances_of}
use Rattle.ground_instances.specs.declared.instance.Instance.{Instance}
use Rattle.nd_term.specs.Justified.{pivot_atom}
use Rattle.nd_term.specs.Outputs.{output_clause}
use Rattle.nd_term.specs.Views.{theory_formula}
use Rattle.plan.specs.Maps.{map_at}
use Rattle.plan.specs.declared.maps.StepMap.{StepMap}
use Rattle.plan.specs.declared.plan.Plan.{Plan}
use Rattle.step_chain.specs.declared.chain.Chain.{Chain}
use Rattle.step_check.specs.Steps.{has_name, step_in}
use Rattle.step_check.specs.declared.verdict.Verdict.{Verdict}
use Rattle.step_check.specs.declared.verdict.Verdict.TheVariants.{Chained, Clausal, Composes, Conjecture, Leaf, Over, Structural, Wrong}
use Rattle.step_clause.specs.declared.justification.Justification.{Justification}
use Rattle.step_clause.specs.declared.justification.Justification.TheVariants.{Resolve, Subsume}
use Rattle.tstp_trace.specs.declared.step.Step.{Step}
use Rattle.tstp_trace.specs.declared.step.StepSource.{StepSource}
use Rattle.tstp_trace.specs.declared.step.StepSource.TheVariants as source
use Rattle.tstp_trace.specs.declared.step.Trace.{Trace}

-- ---- justifications

-- the justification at a stage of a chain: that of a middle clause, and at stage 0 that of the target, after all middle clauses
abbrev pub justification_at : Option Chain → ℕ → Option Justification
justification_at None stage = None
justification_at (Some chain) zero = slice_get chain.steps (length chain.mids)
justification_at (Some chain) (suc before) = slice_get chain.steps before

-- the justification of an instance of a step with this verdict, by its stage and the number of its clause
abbrev pub justification_in : Verdict → ℕ → ℕ → Option Justification
justification_in Leaf stage clause = None
justification_in Conjecture stage clause = None
justification_in (Structural map_here) stage clause = None
justification_in (Clausal steps) stage clause = slice_get steps clause
justification_in (Chained chains) stage clause = justification_at (slice_get chains clause) stage
justification_in (Composes composed) zero clause = slice_get composed.steps clause
justification_in (Composes composed) (suc stage) clause = None
justification_in (Wrong reason) stage clause = None
justification_in (Over limit) stage clause = None

abbrev pub justification_from : Option Verdict → ℕ → ℕ → Option Justification
justification_from None stage clause = None
justification_from (Some verdict) stage clause = justification_in verdict stage clause

-- ---- leaves

-- the name that a leaf gives; a step of another kind has none
abbrev pub leaf_name : StepSource → List ℕ
leaf_name (source.Leaf name) = name
leaf_name (source.Derived cth esa parents) = []

abbrev pub name_of_step : Option Step → List ℕ
name_of_step None = []
name_of_step (Some step) = leaf_name step.source

-- the place of the hypothesis with that name, and 0 where there is none
abbrev pub place_named : List Named → List ℕ → ℕ
place_named hypotheses name = unwrap_or (position (has_name name) hypotheses) 0

-- the formula at a place; $false stands for none
abbrev pub formula_at : Option Named → Formula
formula_at None = formula.False
formula_at (Some named) = named.formula

module _ (problem : Problem) (trace : Trace) (plan : Plan) where
  -- the place of the hypothesis that the leaf of that number names
  abbrev pub hypothesis_of : ℕ → ℕ
  hypothesis_of leaf = place_named problem.hyps (name_of_step (step_in trace.steps leaf))

  -- what is known of a leaf: a hypothesis that is asserted, or the conjecture that is denied
  abbrev pub reason_of_leaf : Thin → StepMap → Bool → Reason
  reason_of_leaf thin it true =
      let place = hypothesis_of it.leaf in let f = formula_at (slice_get problem.hyps place) in
      by_leaf place (theory_formula f) (tree_of plan.origins.list plan.order f thin)
  reason_of_leaf thin it false =
      by_denied (theory_conclusion problem.conjecture) (tree_of plan.origins.list plan.order (formula_at problem.conjecture) thin)

  -- where the step has no map there is no leaf, and the reason is that of the first instance, which stands for none
  abbrev pub reason_of_tree : Thin → Option StepMap → Reason
  reason_of_tree thin None = by_same 0
  reason_of_tree thin (Some it) = reason_of_leaf thin it it.sign

  -- the number of the instance that is needed at this place
  abbrev pub needed_at : Instance → ℕ → ℕ
  needed_at it place = get_or it.needs place 0

  -- the literals of the instance with that number
  abbrev pub literals_at : ℕ → List Literal
  literals_at number = get_or (clauses_in (instances_of plan.instances)) number []

  -- the reason of an instance with this justification, or that of the one instance that it needs
  abbrev pub reason_by : Instance → Option Justification → Reason
  reason_by it None = by_same (needed_at it 0)
  reason_by it (Some (Subsume parent clause picks terms)) = by_subsume (needed_at it 0) picks
  reason_by it (Some (Resolve pos_parent pos_clause neg_parent neg_clause pos_picks neg_picks pos_terms neg_terms)) =
      by_resolve (needed_at it 0) (needed_at it 1) pos_picks neg_picks
      (pivot_atom (symbols_of plan.origins.list) plan.order (length it.lits) (literals_at (needed_at it 0)) pos_picks)

  -- by its thin tree where the instance has one, and else by its justification
  abbrev pub reason_of : Instance → Option Thin → Reason
  reason_of it (Some thin) = reason_of_tree thin (map_at plan.maps it.step)
  reason_of it None = reason_by it (justification_from (verdict_in plan.verdicts.list it.step) it.stage it.clause)

  -- the same instance in the theory
  abbrev pub theory_instance : Instance → Option Thin → TheoryInstance
  theory_instance it thin = record {
    clause = output_clause (symbols_of plan.origins.list) plan.order it.lits;
    by = reason_of it thin;
  }

  abbrev pub theory_instances_of : List Instance → List (Option Thin) → List TheoryInstance
  theory_instances_of [] thins = []
  theory_instances_of (it ∷ instances) [] = theory_instance it None ∷ theory_instances_of instances []
  theory_instances_of (it ∷ instances) (thin ∷ thins) = theory_instance it thin ∷ theory_instances_of instances thins

  -- the plan's instances, in order
  abbrev pub theory_instances : List TheoryInstance
  theory_instances = theory_instances_of (instances_of plan.instances) plan.thins
