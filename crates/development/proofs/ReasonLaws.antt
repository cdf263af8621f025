-- What is built for an instance is what its reason says.
use Rattle.std.proofs.Common.{◌≡◌, ◌+◌, ◌<◌, ℕ, Bool, true, false, List, map, length, Option, None, Some, refl, sym, ap, ◌∙◌, arith}
use Rattle.std.specs.Prelude.{slice_get}
use Rattle.dk_syntax.specs.declared.Named.{Named}
use Rattle.dk_syntax.specs.declared.Problem.{Problem}
use Rattle.dk_syntax.specs.declared.formula.Formula.{Formula as ProgramFormula}
use Rattle.assemble.specs.Body.{reason_proof}
use Rattle.assemble.specs.Fitting.{tree_of}
use Rattle.assemble.specs.Levels.{at_level, place_at}
use Rattle.assemble.specs.Places.{Place as TheoryPlace}
use Rattle.assemble.specs.Problem.{theory_conclusion}
use Rattle.development.proofs.OrderSteps.{at_hypothesis, at_range}
use Rattle.development.specs.Buildable.{HasSign, IsMet}
use Rattle.development.specs.Places.{IsIn, levels_in}
use Rattle.development.specs.Proofs.{proof_at, proof_by, proof_of_instance, proof_of_leaf, proof_of_tree}
use Rattle.expansion.specs.declared.thin.Thin.{Thin}
use Rattle.ground_instances.specs.Keys.{verdict_in}
use Rattle.ground_instances.specs.declared.instance.Instance.{Instance}
use Rattle.lp_term.specs.LambdaPi.{Term}
use Rattle.nd_term.specs.Consumers.{consumer}
use Rattle.nd_term.specs.Formulas.{Formula, unassigned}
use Rattle.nd_term.specs.Instances.{applied_to, at_place, resolution_proof, subsumption_proof}
use Rattle.nd_term.specs.Justified.{pivot_atom}
use Rattle.nd_term.specs.Outputs.{output, place_of}
use Rattle.nd_term.specs.Places.{eigenvariables, eigenvariables_at, last_variables, witnesses, witnesses_at}
use Rattle.nd_term.specs.Reading.{read}
use Rattle.nd_term.specs.ThinReading.{tree_at}
use Rattle.nd_term.specs.ThinTrees.{ThinTree}
use Rattle.nd_term.specs.TreeKinds.{leaves}
use Rattle.nd_term.specs.Views.{theory_formula}
use Rattle.nd_term.specs.declared.place.Place.{Place}
use Rattle.nd_term.proofs.FormulaViews.{theory-False}
use Rattle.plan.specs.Maps.{map_at}
use Rattle.plan.specs.declared.maps.StepMap.{StepMap}
use Rattle.plan.specs.declared.plan.Plan.{Plan}
use Rattle.plan_typing.specs.Reasons.{formula_at, hypothesis_of, justification_from, literals_at, needed_at, reason_by, reason_of, reason_of_leaf, reason_of_tree}
use Rattle.step_clause.specs.declared.justification.Justification.{Justification}
use Rattle.step_clause.specs.declared.justification.Justification.TheVariants.{Resolve, Subsume}
use Rattle.tstp_trace.specs.declared.step.Trace.{Trace}

-- the conjecture's formula, where falsity stands for none
conclusion_is : (conjecture : Option Named) → theory_formula (formula_at conjecture) ≡ theory_conclusion conjecture
conclusion_is None = theory-False
conclusion_is (Some named) = refl

-- a consumer with equal parts
consumer_same : {f g : Formula} {a b : Bool} {s t : ThinTree} {x y w z : ℕ → Term} {l m : List Term} {u v : Term}
    → f ≡ g → a ≡ b → s ≡ t → x ≡ y → w ≡ z → l ≡ m → u ≡ v → consumer f a s unassigned x w l u ≡ consumer g b t unassigned y z m v
consumer_same ef ea es ex ew el eu = λ k. consumer (ef k) (ea k) (es k) unassigned (ex k) (ew k) (el k) (eu k)

module _ (plan : Plan) (first n : ℕ) (place : Place) (i : IsIn plan first n place) where
  eigens_are : eigenvariables place ≡ eigenvariables_at n first (length plan.order)
  eigens_are = λ k. eigenvariables_at (i.level k) (i.first_eigen k) (length (i.order k))

  witnesses_are : witnesses place ≡ witnesses_at n first (length plan.order)
  witnesses_are = λ k. witnesses_at (i.level k) (i.first_eigen k) (length (i.order k))

  tree_is : (f : ProgramFormula) (thin : Thin) → tree_at (theory_formula f) thin place ≡ tree_of plan.origins.list plan.order f thin
  tree_is f thin = λ k.
      (read (theory_formula f) thin.sign (record { sides = thin.picks; terms = map (output (i.symbols k) (i.order k)) thin.terms; eigens = map (place_of (i.order k)) thin.skolems })).tree

  variable_is : (l : ℕ) → at_level place.level l ≡ at_level n l
  variable_is l = λ k. at_level (i.level k) l

  module _ (problem : Problem) (trace : Trace) (begin done : ℕ) where
    abbrev here : TheoryPlace
    here = place_at n (levels_in (length problem.hyps) first (length plan.order) begin done)

    needed_is : (p m : ℕ) → p < done → proof_at place (begin + p) m ≡ applied_to (at_place here.done p) (last_variables m)
    needed_is p m h = ap (λ t. applied_to t (last_variables m)) (variable_is (begin + p) ∙ sym (at_range n begin done p h))

    leaf_is : (m : ℕ) (thin : Thin) (it : StepMap) (b : Bool) → thin.sign ≡ b → IsMet (length problem.hyps) done m (reason_of_leaf problem trace plan thin it b)
        → proof_of_leaf problem trace plan place thin it b ≡ reason_proof here (last_variables m) (reason_of_leaf problem trace plan thin it b)
    leaf_is m thin it true s h =
        let f = formula_at (slice_get problem.hyps (hypothesis_of problem trace plan it.leaf)) in
        consumer_same refl s (tree_is f thin) eigens_are witnesses_are (ap last_variables (ap leaves (tree_is f thin) ∙ h.1))
        (variable_is (hypothesis_of problem trace plan it.leaf) ∙ sym (at_hypothesis n (length problem.hyps) (hypothesis_of problem trace plan it.leaf) h.0))
    leaf_is m thin it false s h =
        let f = formula_at problem.conjecture in
        consumer_same (conclusion_is problem.conjecture) s (tree_is f thin) eigens_are witnesses_are (ap last_variables (ap leaves (tree_is f thin) ∙ h))
        (variable_is (length problem.hyps))

    first_is : (m : ℕ) → 0 < done → proof_at place begin m ≡ applied_to (at_place here.done 0) (last_variables m)
    first_is m h = let e : begin ≡ begin + 0 = omega arith in ap (λ l. proof_at place l m) e ∙ needed_is 0 m h

    tree_proof_is : (m : ℕ) (thin : Thin) (it : Option StepMap) → ((map : StepMap) → it ≡ Some map → thin.sign ≡ map.sign)
        → IsMet (length problem.hyps) done m (reason_of_tree problem trace plan thin it)
        → proof_of_tree problem trace plan place begin m thin it ≡ reason_proof here (last_variables m) (reason_of_tree problem trace plan thin it)
    tree_proof_is m thin None s h = first_is m h
    tree_proof_is m thin (Some it) s h = leaf_is m thin it it.sign (s it refl) h

    by_is : (it : Instance) (j : Option Justification) → IsMet (length problem.hyps) done (length it.lits) (reason_by problem trace plan it j)
        → proof_by problem trace plan place begin it j ≡ reason_proof here (last_variables (length it.lits)) (reason_by problem trace plan it j)
    by_is it None h = needed_is (needed_at problem trace plan it 0) (length it.lits) h
    by_is it (Some (Subsume parent clause picks terms)) h =
        ap (λ t. subsumption_proof t (last_variables (length it.lits)) picks)
        (variable_is (begin + needed_at problem trace plan it 0) ∙ sym (at_range n begin done (needed_at problem trace plan it 0) h))
    by_is it (Some (Resolve pos_parent pos_clause neg_parent neg_clause pos_picks neg_picks pos_terms neg_terms)) h =
        let one = variable_is (begin + needed_at problem trace plan it 0) ∙ sym (at_range n begin done (needed_at problem trace plan it 0) h.0) in
        let other = variable_is (begin + needed_at problem trace plan it 1) ∙ sym (at_range n begin done (needed_at problem trace plan it 1) h.1) in
        λ k. resolution_proof (eigens_are k) (one k) (other k) (last_variables (length it.lits)) pos_picks neg_picks
        (pivot_atom (i.symbols k) (i.order k) (length it.lits) (literals_at problem trace plan (needed_at problem trace plan it 0)) pos_picks)

    pub proof_is : (it : Instance) (thin : Option Thin) → HasSign plan it thin
        → IsMet (length problem.hyps) done (length it.lits) (reason_of problem trace plan it thin)
        → proof_of_instance problem trace plan place begin it thin ≡ reason_proof here (last_variables (length it.lits)) (reason_of problem trace plan it thin)
    proof_is it (Some thin) s h = tree_proof_is (length it.lits) thin (map_at plan.maps it.step) s h
    proof_is it None s h = by_is it (justification_from (verdict_in plan.verdicts.list it.step) it.stage it.clause) h
