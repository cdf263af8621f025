-- The laws of a proper plan, from what the symbols of plans are.
use Rattle.std.proofs.Common.{◌≡◌, ℕ, List, [], ◌∷◌, ◌++◌, map, Option, None, arith, refl, sym, ap, ◌∙◌, subst}
use Rattle.std.proofs.lemmas.List.Elements.{Contains-append_right}
use Rattle.std.specs.List.{Contains}
use Rattle.assemble.proofs.BodyTypes.{body_typed}
use Rattle.assemble.proofs.BuiltLaws.{Builds, works_of}
use Rattle.assemble.proofs.ProblemLaws.{signature_extends}
use Rattle.assemble.proofs.SymbolLaws.{problem_over}
use Rattle.assemble.specs.Fitting.{eigenvariables_of, symbols_of}
use Rattle.assemble.specs.Justification.{Instance as TheoryInstance}
use Rattle.assemble.specs.Problem.{problem_signature, theory_conclusion, theory_formulas, theory_symbol}
use Rattle.dk_syntax.specs.Lists.{Entry, Every, every_cons, every_nil}
use Rattle.dk_syntax.specs.Terms.{instance}
use Rattle.dk_syntax.specs.declared.Problem.{Problem}
use Rattle.expansion.specs.declared.thin.Thin.{Thin}
use Rattle.ground_instances.specs.Instances.{AreInstances}
use Rattle.ground_instances.specs.Keys.{IsClauseOf, Judged}
use Rattle.ground_instances.specs.Lists.{instances_of}
use Rattle.ground_instances.specs.Needs.{value_in}
use Rattle.ground_instances.specs.declared.instance.Instance.{Instance}
use Rattle.lp_term.proofs.ScopeLaws.{typed_below, typed_declared}
use Rattle.lp_term.specs.Connectives.{propositions}
use Rattle.lp_term.specs.Typing.{Declaration}
use Rattle.nd_term.proofs.ListLaws.{every_along}
use Rattle.nd_term.specs.Formulas.{Literal as TheoryLiteral}
use Rattle.nd_term.specs.Outputs.{output_clause, output_literal}
use Rattle.nd_term.specs.Symbols.{GroundOver}
use Rattle.plan.specs.Laws.{AreRightSteps, judged_of}
use Rattle.plan.specs.declared.plan.Plan.{Plan}
use Rattle.plan_symbols.specs.Laws.{InstancesAreOver, ThinsAreOver}
use Rattle.plan_typing.proofs.EigenvariableTurns.{eigenvariables_turn, plan_functions, plan_instances_over, right_steps}
use Rattle.plan_typing.proofs.GroundLaws.{literal_ground}
use Rattle.plan_typing.proofs.LeafWorks.{works_by_tree}
use Rattle.plan_typing.proofs.Numbered.{ends_in_root, entry_in, ground_of}
use Rattle.plan_typing.proofs.PlanInstances.{known_of, plan_builds}
use Rattle.plan_typing.proofs.RootClause.{root_clause_empty}
use Rattle.plan_typing.specs.Laws.{InstancesAreRight, IsProperPlan, PlanBodyIsClosed, PlanBodyIsTyped}
use Rattle.plan_typing.specs.Reasons.{theory_instance, theory_instances, theory_instances_of}
use Rattle.step_check.specs.Steps.{Case, case_of}
use Rattle.tstp_trace.specs.declared.step.Trace.{Trace}

-- ---- lists of instances of the theory

module _ (problem : Problem) (trace : Trace) (plan : Plan) where
  -- the last of the instances, and its clause
  last_of : (thins : List (Option Thin)) (front : List Instance) (it : Instance)
      → (some : List TheoryInstance) × (one : TheoryInstance) × (theory_instances_of problem trace plan (front ++ it ∷ []) thins ≡ some ++ one ∷ [])
      × (one.clause ≡ output_clause (symbols_of plan.origins.list) plan.order it.lits)
  last_of [] [] it = ([], theory_instance problem trace plan it None, refl, refl)
  last_of (thin ∷ thins) [] it = ([], theory_instance problem trace plan it thin, refl, refl)
  last_of [] (first ∷ front) it =
      let r = last_of [] front it in (theory_instance problem trace plan first None ∷ r.0, r.1, ap (λ l. theory_instance problem trace plan first None ∷ l) r.2, r.3)
  last_of (thin ∷ thins) (first ∷ front) it =
      let r = last_of thins front it in (theory_instance problem trace plan first thin ∷ r.0, r.1, ap (λ l. theory_instance problem trace plan first thin ∷ l) r.2, r.3)

  -- what holds of the clause of each instance holds of that of each one of the theory
  every_clause : (P : List TheoryLiteral → Type 0) (instances : List Instance) (thins : List (Option Thin))
      → Every (λ (it : Instance). P (output_clause (symbols_of plan.origins.list) plan.order it.lits)) instances
      → Every (λ (one : TheoryInstance). P one.clause) (theory_instances_of problem trace plan instances thins)
  every_clause P [] thins every_nil = every_nil
  every_clause P (it ∷ instances) [] (every_cons h hs) = every_cons h (every_clause P instances [] hs)
  every_clause P (it ∷ instances) (thin ∷ thins) (every_cons h hs) = every_cons h (every_clause P instances thins hs)

every_mapped : {A B : Type 0} {p : A → Type 0} {q : B → Type 0} (g : A → B) → ((a : A) → p a → q (g a)) → {l : List A} → Every p l → Every q (map g l)
every_mapped g f every_nil = every_nil
every_mapped g f (every_cons {a = a} h hs) = every_cons (f a h) (every_mapped g f hs)

-- ---- the laws

module _ (instances_over : InstancesAreOver) (thins_over : ThinsAreOver) where
  module _ (problem : Problem) (trace : Trace) (limit : ℕ) (plan : Plan) (proper : IsProperPlan problem trace limit plan) where
    abbrev case : Case
    case = case_of problem trace plan.graph

    abbrev judged : Judged
    judged = judged_of case plan.verdicts.list

    abbrev instances : List Instance
    instances = instances_of plan.instances

    abbrev sig : List Declaration
    sig = problem_signature problem.symbols

    right : AreRightSteps case plan.verdicts.list
    right = right_steps problem trace limit plan proper

    are : AreInstances judged plan.root instances
    are = proper.plan_is.instances.0

    builds : Builds sig (eigenvariables_of plan.origins.list plan.order) (theory_formulas problem.hyps) (theory_conclusion problem.conjecture) [] (theory_instances problem trace plan)
    builds =
        plan_builds problem trace plan sig (eigenvariables_of plan.origins.list plan.order) (theory_formulas problem.hyps) (theory_conclusion problem.conjecture) right are
        (λ front back it thin e is.
        works_by_tree instances_over thins_over problem trace limit plan proper it thin
        (subst (λ l. Contains l it) (sym e) (Contains-append_right front (it ∷ back) it (0, omega arith, refl))) is
        (known_of problem trace plan sig (eigenvariables_of plan.origins.list plan.order) (theory_formulas problem.hyps) (theory_conclusion problem.conjecture) front))
        proper.plan_is.thins

    ends : (front : List TheoryInstance) × (one : TheoryInstance) × (theory_instances problem trace plan ≡ front ++ one ∷ []) × (one.clause ≡ [])
    ends =
        let w = ends_in_root judged plan.root instances are in
        let at = entry_in w.0 w.1 [] in
        let ground = ground_of judged plan.root instances are at.0 w.1 (subst (λ l. Entry l at.0 w.1) (sym w.2) at.1) in
        let empty = root_clause_empty problem trace plan.graph.parents plan.verdicts.list right plan.root proper.plan_is.judged.start.root_is ground.clause
        (subst (λ k. IsClauseOf judged k ground.clause) w.3 ground.of) in
        let lits : w.1.lits ≡ [] = ground.is ∙ ap (map (instance (value_in w.1.terms))) empty in
        let last = last_of problem trace plan plan.thins w.0 w.1 in (
          last.0,
          last.1,
          ap (λ l. theory_instances_of problem trace plan l plan.thins) w.2 ∙ last.2,
          last.3 ∙ ap (output_clause (symbols_of plan.origins.list) plan.order) lits,
        )

    symbols : Every (λ (one : TheoryInstance). Every (λ (l : TheoryLiteral). GroundOver sig propositions 0 l.atom) one.clause) (theory_instances problem trace plan)
    symbols =
        let functions = plan_functions problem trace limit plan proper in
        every_clause problem trace plan (λ d. Every (λ (l : TheoryLiteral). GroundOver sig propositions 0 l.atom) d) instances plan.thins
        (every_along (λ it over. every_mapped (output_literal (symbols_of plan.origins.list) plan.order) (λ l o. literal_ground problem plan.origins.list plan.order functions l o) over.lits)
        (plan_instances_over problem trace limit plan proper instances_over thins_over))

  pub instances_right : InstancesAreRight
  instances_right problem trace limit plan proper =
      record { works = works_of (builds problem trace limit plan proper); ends = ends problem trace limit plan proper; symbols = symbols problem trace limit plan proper }

  pub body_of_plan_typed : PlanBodyIsTyped
  body_of_plan_typed problem trace limit plan proper =
      let over = problem_over problem proper.proper.formed proper.proper.symbols in
      body_typed (problem_signature problem.symbols) (signature_extends (map theory_symbol problem.symbols)) (eigenvariables_of plan.origins.list plan.order)
      (theory_formulas problem.hyps) (theory_conclusion problem.conjecture) over.0 over.1
      (eigenvariables_turn instances_over thins_over problem trace limit plan proper) (instances_right problem trace limit plan proper)

  pub body_of_plan_closed : PlanBodyIsClosed
  body_of_plan_closed problem trace limit plan proper =
      let typed = body_of_plan_typed problem trace limit plan proper in (typed_below typed, typed_declared typed)
