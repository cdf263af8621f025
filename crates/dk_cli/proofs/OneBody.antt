-- Plans that are alike have one body of goal, and so one development.
use Rattle.std.proofs.Common.{◌≡◌, Bool, true, false, List, [], ◌∷◌, ◌++◌, codes, length, get_or, slice_get, Option, None, Some, refl, sym, ◌∙◌, ap, ap₂}
use Rattle.assemble.specs.Body.{goal_body}
use Rattle.assemble.specs.Fitting.{eigenvariables_of, symbols_of, tree_of}
use Rattle.assemble.specs.Justification.{by_denied, by_leaf, by_resolve}
use Rattle.assemble.specs.Problem.{theory_conclusion, theory_formulas}
use Rattle.development.specs.Development.{IsDevelopment}
use Rattle.dk_syntax.specs.declared.Problem.{Problem}
use Rattle.expansion.specs.declared.thin.Thin.{Thin}
use Rattle.ground_instances.specs.Instances.{clauses_in}
use Rattle.ground_instances.specs.Keys.{verdict_in}
use Rattle.ground_instances.specs.Lists.{instances_of}
use Rattle.ground_instances.specs.declared.instance.Instance.{Instance}
use Rattle.lp_term.specs.Prelude.{prelude}
use Rattle.lp_term.specs.Problems.{constants_of, goal_type_of}
use Rattle.lp_term.specs.declared.Command.TheVariants.{Define}
use Rattle.lp_term.specs.declared.Dev.{Dev}
use Rattle.nd_term.specs.Justified.{pivot_atom}
use Rattle.nd_term.specs.Outputs.{output_clause}
use Rattle.nd_term.specs.Views.{theory_formula}
use Rattle.plan.specs.Maps.{map_at}
use Rattle.plan.specs.OnePlan.{AreAlikePlans}
use Rattle.plan.specs.declared.maps.StepMap.{StepMap}
use Rattle.plan.specs.declared.plan.Plan.{Plan}
use Rattle.plan_typing.specs.Laws.{plan_body}
use Rattle.plan_typing.specs.Reasons.{formula_at, hypothesis_of, justification_from, needed_at, reason_by, reason_of, reason_of_leaf, reason_of_tree, theory_instance, theory_instances, theory_instances_of}
use Rattle.step_clause.specs.declared.justification.Justification.{Justification}
use Rattle.step_clause.specs.declared.justification.Justification.TheVariants.{Resolve, Subsume}
use Rattle.tstp_trace.specs.declared.Trace.{Trace}
use Rattle.dk_cli.proofs.OneTerm.{one_term}

module _ (problem : Problem) (trace : Trace) (one other : Plan) (alike : AreAlikePlans trace one other) (order : one.order ≡ other.order) where
  leaf_same : (thin : Thin) (it : StepMap) (sign : Bool) → reason_of_leaf problem trace one thin it sign ≡ reason_of_leaf problem trace other thin it sign
  leaf_same thin it true =
      let place = hypothesis_of problem trace one it.leaf in
      let f = formula_at (slice_get problem.hyps place) in
      ap₂ (λ origins needed. by_leaf place (theory_formula f) (tree_of origins needed f thin)) alike.origins order
  leaf_same thin it false =
      ap₂ (λ origins needed. by_denied (theory_conclusion problem.conjecture) (tree_of origins needed (formula_at problem.conjecture) thin)) alike.origins order

  tree_same : (thin : Thin) (found : Option StepMap) → reason_of_tree problem trace one thin found ≡ reason_of_tree problem trace other thin found
  tree_same thin None = refl
  tree_same thin (Some it) = leaf_same thin it it.sign

  by_same_one : (it : Instance) (found : Option Justification) → reason_by problem trace one it found ≡ reason_by problem trace other it found
  by_same_one it None = refl
  by_same_one it (Some (Subsume parent clause picks terms)) = refl
  by_same_one it (Some (Resolve pos_parent pos_clause neg_parent neg_clause pos_picks neg_picks pos_terms neg_terms)) =
      let p = needed_at problem trace one it 0 in
      let q = needed_at problem trace one it 1 in
      ap₂ (λ origins needed. by_resolve p q pos_picks neg_picks (pivot_atom (symbols_of origins) needed (length it.lits) (get_or (clauses_in (instances_of one.instances)) p []) pos_picks)) alike.origins order
      ∙ ap (λ list. by_resolve p q pos_picks neg_picks (pivot_atom (symbols_of other.origins.list) other.order (length it.lits) (get_or (clauses_in list) p []) pos_picks)) alike.instances

  reason_same : (it : Instance) (thin : Option Thin) → reason_of problem trace one it thin ≡ reason_of problem trace other it thin
  reason_same it (Some thin) =
      tree_same thin (map_at one.maps it.step) ∙ ap (λ maps. reason_of_tree problem trace other thin (map_at maps it.step)) alike.maps
  reason_same it None =
      by_same_one it (justification_from (verdict_in one.verdicts.list it.step) it.stage it.clause)
      ∙ ap (λ list. reason_by problem trace other it (justification_from (verdict_in list it.step) it.stage it.clause)) alike.verdicts

  instance_same : (it : Instance) (thin : Option Thin) → theory_instance problem trace one it thin ≡ theory_instance problem trace other it thin
  instance_same it thin =
      let clause = ap₂ (λ origins needed. output_clause (symbols_of origins) needed it.lits) alike.origins order in
      λ i. record { clause = clause i; by = reason_same it thin i }

  list_same : (instances : List Instance) (thins : List (Option Thin)) → theory_instances_of problem trace one instances thins ≡ theory_instances_of problem trace other instances thins
  list_same [] thins = refl
  list_same (it ∷ instances) [] = ap₂ (λ a l. a ∷ l) (instance_same it None) (list_same instances [])
  list_same (it ∷ instances) (thin ∷ thins) = ap₂ (λ a l. a ∷ l) (instance_same it thin) (list_same instances thins)

  instances_same : theory_instances problem trace one ≡ theory_instances problem trace other
  instances_same =
      list_same (instances_of one.instances) one.thins
      ∙ ap₂ (λ instances thins. theory_instances_of problem trace other instances thins) alike.instances alike.thins

  body_same : plan_body problem trace one ≡ plan_body problem trace other
  body_same =
      ap₂ (λ origins needed. goal_body (theory_formulas problem.hyps) (eigenvariables_of origins needed) (theory_conclusion problem.conjecture) (theory_instances problem trace one)) alike.origins order
      ∙ ap (goal_body (theory_formulas problem.hyps) (eigenvariables_of other.origins.list other.order) (theory_conclusion problem.conjecture)) instances_same

  pub one_development : (made another : Dev) → IsDevelopment problem trace one made → IsDevelopment problem trace other another → made ≡ another
  one_development made another h k =
      let bodies = one_term h.body k.body (h.is ∙ body_same ∙ sym k.is) in
      let commands = h.commands ∙ ap (λ body. prelude ++ constants_of problem.symbols ++ Define (codes "goal") (goal_type_of problem) body ∷ []) bodies ∙ sym k.commands in
      λ i. record { commands = commands i }
