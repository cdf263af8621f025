-- There is one plan.
use Rattle.std.proofs.Common.{◌≡◌, ◌≢◌, ◌<◌, ℕ, suc, List, [], ◌∷◌, Contains, get_or, length, Option, Some, None, refl, sym, ap, ap₂, ◌∙◌, subst}
use Rattle.std.proofs.lemmas.List.{ext_get_or}
use Rattle.std.specs.Prelude.{Err, filter_map, Ok, Result}
use Rattle.derivation_graph.proofs.AnswerLaws.{one_graph, one_root}
use Rattle.derivation_graph.specs.declared.graph.Graph.{Graph}
use Rattle.derivation_graph.specs.declared.graph.GraphFault.{GraphFault}
use Rattle.derivation_graph.specs.declared.graph.GraphFault.TheVariants as graph
use Rattle.dk_syntax.specs.declared.Problem.{Problem}
use Rattle.dk_syntax.specs.declared.symbol.Kind.TheVariants.{Function}
use Rattle.dk_syntax.specs.declared.symbol.SymKey.{SymKey}
use Rattle.expansion.specs.declared.thin.Thin.{Thin}
use Rattle.ground_instances.specs.Keys.{Judged}
use Rattle.ground_instances.specs.Instances.{clauses_in, IsPullAnswer}
use Rattle.ground_instances.specs.Lists.{instances_of}
use Rattle.ground_instances.specs.Weights.{IsWeight}
use Rattle.ground_instances.specs.declared.instance.Instance.{Instance}
use Rattle.ground_instances.specs.declared.instance.PullFault.{PullFault}
use Rattle.ground_instances.specs.declared.instance.PullFault.TheVariants as pull
use Rattle.plan.proofs.FitOrigins.{origins_are_fit}
use Rattle.plan.proofs.Membership.{among}
use Rattle.plan.proofs.OneAnswer.{origins_are_one, thin_is_one}
use Rattle.plan.proofs.OnePull.{pull_answers_are_one}
use Rattle.plan.proofs.OneWeight.{weight_one}
use Rattle.plan.proofs.OriginLaws.{from_origin}
use Rattle.plan.proofs.StepMaps.{leaf_place_one, map_one}
use Rattle.plan.specs.Laws.{AreRightSteps, AreWellFormed, judged_of}
use Rattle.plan.specs.Maps.{AreStepMaps, IsMapAnswer, IsStepMap, map_at}
use Rattle.plan.specs.OnePlan.{AreAlikePlans, HasWellFormedRoots, PlansAreOne, roots_of}
use Rattle.plan.specs.Origins.{AreOrigins, IsFitEntry}
use Rattle.plan.specs.Plans.{AreJudged, IsPlan, judged_in}
use Rattle.plan.specs.Thins.{AreThins, IsThinAnswer}
use Rattle.plan.specs.declared.maps.StepMap.{StepMap}
use Rattle.plan.specs.declared.plan.Plan.{Plan}
use Rattle.skolem_order.proofs.OneList.{one_list}
use Rattle.skolem_order.specs.Order.{AreNeeded, root_terms}
use Rattle.skolem_order.specs.Rooted.{HaveFunctions}
use Rattle.skolem_order.specs.declared.origins.Origin.{Origin}
use Rattle.step_check.proofs.OneVerdict.{one_verdict_list}
use Rattle.step_check.specs.Steps.{Case, case_of, nodes_of}
use Rattle.step_check.specs.declared.verdict.Verdict.{Verdict}
use Rattle.step_skolem.specs.Images.{entry}
use Rattle.step_skolem.specs.declared.map.SkEntry.{SkEntry}
use Rattle.tstp_trace.specs.declared.step.Trace.{Trace}

same_graph : (a b : Graph) (r t : Result Graph GraphFault) → r ≡ Ok a → t ≡ Ok b → r ≡ t → a ≡ b
same_graph a b r t h k e = cc

same_instances : (a b : List Instance) (r t : Result (List Instance) PullFault) → r ≡ Ok a → t ≡ Ok b → r ≡ t → a ≡ b
same_instances a b r t h k e = cc

graph_lacks : (g : Graph) (r : Result Graph GraphFault) → r ≡ Ok g → r ≢ Err graph.Memory
graph_lacks g r h = λ k. cc

pull_lacks : (l : List Instance) (r : Result (List Instance) PullFault) → r ≡ Ok l → r ≢ Err pull.Memory
pull_lacks l r h = λ k. cc

same_root : (a b : ℕ) → Some a ≡ Some b → a ≡ b
same_root a b h = cc

-- ---- of one list of verdicts

module _ (case : Case) (list : List Verdict) (s : AreRightSteps case list) where
  step_map_one : (i : ℕ) (it other : StepMap) → IsStepMap (judged_of case list) i it → IsStepMap (judged_of case list) i other → it ≡ other
  step_map_one i it other h k =
      let same = map_one case list s.are s.right s.acyclic h.maps k.maps in
      let leaf : it.leaf ≡ other.leaf = sym h.based ∙ leaf_place_one (judged_of case list) h.maps k.maps ∙ k.based in
      λ j. record { leaf = leaf j; sign = same.sign j; map = record { entries = same.entries j } }

  answer_one : (i : ℕ) (a b : Option StepMap) → IsMapAnswer (judged_of case list) i a → IsMapAnswer (judged_of case list) i b → a ≡ b
  answer_one i None None h k = refl
  answer_one i None (Some it) h k = absurd (h k.step.formula it.sign it.map.entries k.maps)
  answer_one i (Some it) None h k = absurd (k h.step.formula it.sign it.map.entries h.maps)
  answer_one i (Some it) (Some other) h k = ap Some (step_map_one i it other h k)

  maps_one : (maps others : List (Option StepMap)) → AreStepMaps (judged_of case list) maps → AreStepMaps (judged_of case list) others → maps ≡ others
  maps_one maps others h k =
      ext_get_or None maps others (h.long ∙ sym k.long) (λ i below. answer_one (suc i) (map_at maps (suc i)) (map_at others (suc i)) (h.each (suc i)) (k.each (suc i)))

  thin_one : (it : Instance) (a b : Option Thin) → IsThinAnswer (judged_of case list) it a → IsThinAnswer (judged_of case list) it b → a ≡ b
  thin_one it None None h k = refl
  thin_one it None (Some thin) h k = absurd (h thin k)
  thin_one it (Some thin) None h k = absurd (k thin h)
  thin_one it (Some thin) (Some other) h k = ap Some (thin_is_one case list s it thin other h k)

  thins_one : (instances : List Instance) (thins others : List (Option Thin)) → AreThins (judged_of case list) instances thins → AreThins (judged_of case list) instances others → thins ≡ others
  thins_one [] [] [] h k = refl
  thins_one [] [] (other ∷ others) h k = absurd k
  thins_one [] (thin ∷ thins) others h k = absurd h
  thins_one (it ∷ instances) [] others h k = absurd h
  thins_one (it ∷ instances) (thin ∷ thins) [] h k = absurd k
  thins_one (it ∷ instances) (thin ∷ thins) (other ∷ others) h k = ap₂ (λ a l. a ∷ l) (thin_one it thin other h.0 k.0) (thins_one instances thins others h.1 k.1)

  -- ---- the symbols of origins are functions

  fit_at : (entries : List SkEntry) (e : SkEntry) → Contains entries e → (entries_fit : (k : ℕ) → k < length entries → IsFitEntry (get_or entries k e)) → IsFitEntry e
  fit_at entries e (k, below, is) fit = subst IsFitEntry is (fit k below)

  functions : AreWellFormed case.steps → (origins : List Origin) → AreOrigins (judged_of case list) origins → HaveFunctions origins
  functions formed origins os o (k, below, is) =
      let fit = origins_are_fit case list s formed origins os in
      let here = subst (λ (x : Origin). (j : ℕ) → (d : SkEntry) → j < length x.map.entries → IsFitEntry (get_or x.map.entries j d)) is (fit k o below) in
      let r = from_origin (judged_of case list) 0 list origins os o (among origins o (k, below, is)) in
      let own = entry o.ex r.symbol r.origin.args in
      let kind : r.symbol.kind ≡ Function = (fit_at o.map.entries own r.origin.own (λ j less. here j own less)).kind in
      ap (λ (x : SymKey). x.kind) r.origin.named ∙ kind

-- ---- two plans

module _ (problem : Problem) (trace : Trace) (limit : ℕ) (one other : Plan) (h : IsPlan problem trace limit one) (k : IsPlan problem trace limit other) where
  graph_is : one.graph ≡ other.graph
  graph_is =
      same_graph one.graph other.graph (Ok one.graph) (Ok other.graph) refl refl
      (one_graph (nodes_of trace) (Ok one.graph) (Ok other.graph) h.judged.start.graph_is k.judged.start.graph_is (graph_lacks one.graph (Ok one.graph) refl) (graph_lacks other.graph (Ok other.graph) refl))

  root_is : one.root ≡ other.root
  root_is = same_root one.root other.root (one_root _ _ (Some one.root) (Some other.root) h.judged.start.root_is k.judged.start.root_is)

  verdicts_are : one.verdicts.list ≡ other.verdicts.list
  verdicts_are =
      one_verdict_list (case_of problem trace one.graph) one.verdicts.list other.verdicts.list h.judged.verdicts
      (subst (λ g. AreJudged problem trace g other.root other.verdicts.list) (sym graph_is) k.judged).verdicts

  abbrev case : Case
  case = case_of problem trace one.graph

  right : AreRightSteps case one.verdicts.list
  right = record { are = h.judged.verdicts; right = h.right; acyclic = h.judged.start.graph_is.1 }

  -- what holds of the other plan, of the graph and the verdicts of the one
  moved : (P : Judged → Type 0) → P (judged_in problem trace other.graph other.verdicts.list) → P (judged_of case one.verdicts.list)
  moved P p =
      subst (λ l. P (judged_in problem trace one.graph l)) (sym verdicts_are) (subst (λ g. P (judged_in problem trace g other.verdicts.list)) (sym graph_is) p)

  instances_are : instances_of one.instances ≡ instances_of other.instances
  instances_are =
      same_instances (instances_of one.instances) (instances_of other.instances) (Ok (instances_of one.instances)) (Ok (instances_of other.instances)) refl refl
      (pull_answers_are_one case one.verdicts.list right one.root limit (Ok (instances_of one.instances)) (Ok (instances_of other.instances)) h.instances
      (subst (λ n. IsPullAnswer (judged_of case one.verdicts.list) n limit (Ok (instances_of other.instances))) (sym root_is)
      (moved (λ judged. IsPullAnswer judged other.root limit (Ok (instances_of other.instances))) k.instances))
      (pull_lacks (instances_of one.instances) (Ok (instances_of one.instances)) refl) (pull_lacks (instances_of other.instances) (Ok (instances_of other.instances)) refl))

  weight_is : one.weight ≡ other.weight
  weight_is =
      weight_one (clauses_in (instances_of one.instances)) one.weight other.weight h.weight (subst (λ l. IsWeight (clauses_in l) other.weight) (sym instances_are) k.weight)

  thins_are : one.thins ≡ other.thins
  thins_are =
      thins_one case one.verdicts.list right (instances_of one.instances) one.thins other.thins h.thins
      (subst (λ l. AreThins (judged_of case one.verdicts.list) l other.thins) (sym instances_are) (moved (λ judged. AreThins judged (instances_of other.instances) other.thins) k.thins))

  origins_are : one.origins.list ≡ other.origins.list
  origins_are =
      origins_are_one case one.verdicts.list right one.origins.list other.origins.list h.origins (moved (λ judged. AreOrigins judged other.origins.list) k.origins)

  roots_are : roots_of one ≡ roots_of other
  roots_are =
      ap (λ thins. root_terms (filter_map (λ thin. thin) thins) (clauses_in (instances_of one.instances))) thins_are
      ∙ ap (λ l. root_terms (filter_map (λ thin. thin) other.thins) (clauses_in l)) instances_are

  order_is : AreWellFormed trace.steps → HasWellFormedRoots one → one.order ≡ other.order
  order_is formed roots =
      let needed : AreNeeded one.origins.list (roots_of one) other.order =
      subst (λ l. AreNeeded one.origins.list l other.order) (sym roots_are) (subst (λ l. AreNeeded l (roots_of other) other.order) (sym origins_are) k.order) in
      one_list one.origins.list (roots_of one) (functions case one.verdicts.list right formed one.origins.list h.origins) roots one.order other.order h.order needed

  pub alike : AreAlikePlans trace one other
  alike = record {
    graph = graph_is;
    root = root_is;
    verdicts = verdicts_are;
    instances = instances_are;
    weight = weight_is;
    maps = maps_one case one.verdicts.list right one.maps other.maps h.maps (moved (λ judged. AreStepMaps judged other.maps) k.maps);
    thins = thins_are;
    origins = origins_are;
    order = order_is;
  }

pub plans_are_one : PlansAreOne
plans_are_one problem trace limit one other h k = alike problem trace limit one other h k
