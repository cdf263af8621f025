-- A step that is right by its clauses is true where its parents are.
use Rattle.std.proofs.Common.{◌≡◌, ℕ, zero, suc, Bool, true, false, not, List, [], ◌∷◌, Option, None, Some, Contains, refl, sym, subst, ◌∙◌, arith}
use Rattle.std.specs.List.{list_any}
use Rattle.dk_syntax.specs.WellFormed.{IsClosed}
use Rattle.normal_form.proofs.BoolLaws.{left_false}
use Rattle.normal_form.proofs.FormEquations.{in-True, truth-True}
use Rattle.normal_form.proofs.NormalFacts.{closed_stays_closed}
use Rattle.normal_form.proofs.SoundLists.{clauses_follow}
use Rattle.normal_form.proofs.SufficientLists.{clauses_suffice}
use Rattle.normal_form.proofs.TruthLaws.{same_truth}
use Rattle.normal_form.specs.ClauseLists.{clause_rows}
use Rattle.normal_form.specs.ClauseTruth.{AllIsEach, RowsHold}
use Rattle.normal_form.specs.Existentials.{existential_in}
use Rattle.normal_form.specs.Normal.{normal_of}
use Rattle.normal_form.specs.Occurrence.{IsClosedForm}
use Rattle.normal_form.specs.Truth.{form_truth, Interpretation}
use Rattle.normal_form.specs.declared.clause_list.ClauseList.{ClauseList}
use Rattle.normal_form.specs.declared.clause_list.ClauseRow.{ClauseRow}
use Rattle.step_chain.specs.declared.chain.Chain.{Chain}
use Rattle.step_check.proofs.SortedLaws.{representative_is_sorted}
use Rattle.step_check.proofs.TrueClauses.{chained_true, justified_true, ListsHold}
use Rattle.step_check.proofs.TrueForms.{same_sorted_truth}
use Rattle.step_check.specs.Steps.{Case, form_of_step, is_conjecture_leaf, own_form, parents_of, step_in}
use Rattle.step_check.specs.Truth.{AllMeansEach, ClausesKeepTruth, FollowsFromParents, Holds, is_by_clauses, IsClosedStep, step_truth, truth_at}
use Rattle.step_check.specs.Verdicts.{AreChained, AreLists, HasVerdict, IsClausalVerdict, IsFlaggedVerdict, IsInferenceVerdict, IsLeafVerdict, IsListAt, IsOtherVerdict, IsPlainVerdict}
use Rattle.step_check.specs.Verdicts as is
use Rattle.step_check.specs.declared.verdict.Verdict.{Verdict}
use Rattle.step_clause.specs.declared.justification.Justification.{Justification}
use Rattle.step_compose.specs.Composing.{AreJustified}
use Rattle.tstp_trace.specs.declared.step.Step.{Step}

module _ {D : Type 0} (i : Interpretation D) (case : Case) where
  step_form_truth : (v : ℕ → D) (step : Option Step) → form_truth i (form_of_step case.problem step) v ≡ step_truth i v case.problem step
  step_form_truth v None = truth-True i v
  step_form_truth v (Some step) = let sign = not (is_conjecture_leaf case.problem step.source) in same_truth step.formula sign (normal_of step.formula sign) refl i v

  -- a step's own form is true where its formula is
  pub own_truth : (k : ℕ) (v : ℕ → D) → form_truth i (own_form case k) v ≡ truth_at case i v k
  own_truth k v = step_form_truth v (step_in case.steps k)

  -- ---- lists of parents

  module _ (each : AllIsEach i) where
    list_holds : (q : ℕ) (list : ClauseList) → IsListAt case q list → Holds case i q → RowsHold i list.rows
    list_holds q list at h =
        subst (RowsHold i) (sym at.2) (clauses_follow i each at.0 (λ v. sym (same_sorted_truth i (own_form case q) at.0 (representative_is_sorted case q at.0 at.1) v) ∙ (own_truth q v ∙ h v)))

    lists_hold : (parents : List ℕ) (lists : List ClauseList) → AreLists case parents lists → ((q : ℕ) → Contains parents q → Holds case i q) → ListsHold i lists
    lists_hold [] [] at h = tt
    lists_hold [] (list ∷ lists) at h = absurd at
    lists_hold (q ∷ parents) [] at h = absurd at
    lists_hold (q ∷ parents) (list ∷ lists) at h =
        (list_holds q list at.0 (h q (zero, omega arith, refl)), lists_hold parents lists at.1 (λ p there. h p (suc there.0, omega (arith, there.1), there.2)))

  -- ---- the clauses of the step

  rows_justified : (rows : List ClauseRow) (lists : List ClauseList) (steps : List Justification) → AreJustified rows lists steps → ListsHold i lists → RowsHold i rows
  rows_justified [] lists steps a h = tt
  rows_justified (row ∷ rows) lists [] a h = absurd a
  rows_justified (row ∷ rows) lists (step ∷ steps) a h = (justified_true i row.clause lists step a.0 h, rows_justified rows lists steps a.1 h)

  rows_chained : (rows : List ClauseRow) (lists : List ClauseList) (chains : List Chain) → AreChained rows lists chains → ListsHold i lists → RowsHold i rows
  rows_chained [] lists chains a h = tt
  rows_chained (row ∷ rows) lists [] a h = absurd a
  rows_chained (row ∷ rows) lists (chain ∷ chains) a h = (chained_true i row.clause lists chain a.0 h, rows_chained rows lists chains a.1 h)

  rows_hold : (lists : List ClauseList) (rows : List ClauseRow) {v : Verdict} → IsClausalVerdict lists rows v → is_by_clauses v ≡ true → ListsHold i lists → RowsHold i rows
  rows_hold lists rows (is.clausal steps n a) e h = rows_justified rows lists steps a h
  rows_hold lists rows (is.chained chains n a) e h = rows_chained rows lists chains a h
  rows_hold lists rows (is.unjustified number first) e h = absurd (cc)

  closed_form : (step : Option Step) → ((one : Step) → step ≡ Some one → IsClosed one.formula) → IsClosedForm (form_of_step case.problem step)
  closed_form None h n = in-True n
  closed_form (Some step) h n = closed_stays_closed step.formula (not (is_conjecture_leaf case.problem step.source)) (h step refl) n

  -- ---- the cases of the verdict

  module _ (all : AllMeansEach i) (k : ℕ) (closed : IsClosedStep case k) (parents : (q : ℕ) → Contains (parents_of case k) q → Holds case i q) where
    plain_true : {v : Verdict} → IsPlainVerdict case k v → is_by_clauses v ≡ true → Holds case i k
    plain_true (is.has_exists h) e = absurd (cc)
    plain_true (is.alien symbol h a) e = absurd (cc)
    plain_true (is.by_clauses lists v h a at c) e =
        let rows = rows_hold lists (clause_rows (own_form case k)) c e (lists_hold all.0 (parents_of case k) lists at parents) in
        let plain = left_false (existential_in (own_form case k)) (list_any (λ q. existential_in (own_form case q)) (parents_of case k)) h in
        (λ values. sym (own_truth k values) ∙ clauses_suffice i all.1 (own_form case k) plain (closed_form (step_in case.steps k) closed) rows values)

    flagged_false : {v : Verdict} → IsFlaggedVerdict case k v → is_by_clauses v ≡ true → ⊥
    flagged_false (is.composes q r composed may rep least) e = cc
    flagged_false (is.composes_not q r may rep none) e = cc
    flagged_false (is.in_no_question none) e = cc

    other_true : (cth esa : Bool) (v : Verdict) → IsOtherVerdict case k cth esa v → is_by_clauses v ≡ true → Holds case i k
    other_true false false v o e = plain_true o e
    other_true true esa v o e = absurd (flagged_false o e)
    other_true false true v o e = absurd (flagged_false o e)

    inference_true : (cth esa : Bool) {v : Verdict} → IsInferenceVerdict case k cth esa v → is_by_clauses v ≡ true → Holds case i k
    inference_true cth esa (is.conjecture_parent c h) e = absurd (cc)
    inference_true cth esa (is.not_conjecture c h) e = absurd (cc)
    inference_true cth esa (is.same q fit one like) e = absurd (cc)
    inference_true cth esa (is.skolem q r entries fit one s like rep) e = absurd (cc)
    inference_true cth esa (is.other v fit nor o) e = other_true cth esa v o e

leaf_false : (case : Case) (step : Step) (name : List ℕ) {v : Verdict} → IsLeafVerdict case step name v → is_by_clauses v ≡ true → ⊥
leaf_false case step name (is.unknown h) e = cc
leaf_false case step name (is.altered item h k) e = cc
leaf_false case step name (is.conjecture item h k l) e = cc
leaf_false case step name (is.leaf item h k l) e = cc

verdict_true : {D : Type 0} (case : Case) {k : ℕ} {v : Verdict} → HasVerdict case k v → IsClosedStep case k → is_by_clauses v ≡ true → FollowsFromParents case D k
verdict_true case (is.over k limit h) closed e i all parents = absurd (cc)
verdict_true case (is.over_full k q r limit within may rep h) closed e i all parents = absurd (cc)
verdict_true case (is.of_leaf k step name v within at from h) closed e i all parents = absurd (leaf_false case step name h e)
verdict_true case (is.of_inference k cth esa v within derived h) closed e i all parents = inference_true i case all k closed parents cth esa h e

pub clauses_keep_truth : {D : Type 0} → ClausesKeepTruth D
clauses_keep_truth case k v closed h e = verdict_true case h closed e
