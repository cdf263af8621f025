-- The clause of the root is empty.
use Rattle.std.proofs.Common.{◌≡◌, ◌+◌, ℕ, zero, suc, Bool, true, false, not, List, [], ◌∷◌, map, Some, slice_get, refl, sym, ap, ◌∙◌, subst, arith}
use Rattle.derivation_graph.specs.Roots.{IsRootAnswer}
use Rattle.dk_syntax.specs.declared.Problem.{Problem}
use Rattle.dk_syntax.specs.declared.clause.Clause.{Clause}
use Rattle.dk_syntax.specs.declared.formula.Formula.TheVariants as formula
use Rattle.normal_form.proofs.FormLaws.{form-False, form_is_tree}
use Rattle.normal_form.proofs.FormulaEquations.{normal-False-true}
use Rattle.normal_form.proofs.Regroups.{sorting_is_exact}
use Rattle.normal_form.proofs.RowLaws.{rows-False}
use Rattle.normal_form.specs.ClauseLists.{clause_rows, row_of}
use Rattle.normal_form.specs.Forms.{all, and, ex, Form, form_of, lit, nf_of, no, or, yes}
use Rattle.normal_form.specs.Normal.{normal_of}
use Rattle.normal_form.specs.Sorting.{Regrouped, SameSorted}
use Rattle.normal_form.specs.Sorting as by
use Rattle.normal_form.specs.declared.clause_list.ClauseRow.{ClauseRow}
use Rattle.normal_form.specs.declared.form.Nf.{Nf}
use Rattle.normal_form.specs.declared.form.Nf.TheVariants as nf
use Rattle.step_check.proofs.SortedLaws.{representative_is_sorted}
use Rattle.step_check.specs.Steps.{Case, form_of_step, is_conjecture_leaf, own_form, step_in}
use Rattle.step_check.specs.declared.verdict.Verdict.{Verdict}
use Rattle.ground_instances.proofs.StandsLaws.{stands_represents}
use Rattle.ground_instances.specs.Keys.{IsClauseOf, key, listed, Stands}
use Rattle.plan.specs.Laws.{AreRightSteps, judged_of}
use Rattle.plan.specs.Plans.{barred_in, formulas_in}
use Rattle.tstp_trace.specs.declared.step.Step.{Step}
use Rattle.tstp_trace.specs.declared.step.Trace.{Trace}

-- ---- forms that are sorted like False

abbrev is_no : Form → Bool
is_no yes = false
is_no no = true
is_no (lit literal) = false
is_no (and a b) = false
is_no (or a b) = false
is_no (all a) = false
is_no (ex a) = false

same_no : {a b : Form} → Regrouped a b → is_no a ≡ is_no b
same_no (by.stay a) = refl
same_no (by.chain a b c h k) = same_no h ∙ same_no k
same_no (by.swap_and a b) = refl
same_no (by.turn_and a b c) = refl
same_no (by.in_and a b c d h k) = refl
same_no (by.swap_or a b) = refl
same_no (by.turn_or a b c) = refl
same_no (by.in_or a b c d h k) = refl
same_no (by.in_all a b h) = refl
same_no (by.in_ex a b h) = refl

no_is : (a : Form) → is_no a ≡ true → a ≡ no
no_is yes e = absurd (cc)
no_is no e = refl
no_is (lit literal) e = absurd (cc)
no_is (and a b) e = absurd (cc)
no_is (or a b) e = absurd (cc)
no_is (all a) e = absurd (cc)
no_is (ex a) e = absurd (cc)

sorted_false : (r : Nf) → SameSorted nf.False r → r ≡ nf.False
sorted_false r same =
    let no_there : is_no (form_of r) ≡ true = sym (same_no ((sorting_is_exact nf.False r).0 same)) ∙ ap is_no form-False in
    sym (form_is_tree r) ∙ ap nf_of (no_is (form_of r) no_there ∙ sym form-False) ∙ form_is_tree nf.False

false_rows : (row : ClauseRow) → slice_get (clause_rows nf.False) 0 ≡ Some row → row.clause.lits ≡ []
false_rows row at =
    let there : slice_get (map row_of (record { lits = []; picks = [] } ∷ [])) 0 ≡ Some row =
    subst (λ x. slice_get (map row_of x) 0 ≡ Some row) (rows-False 0 []) at in
    first_row row there
  where
    first_row : (row : ClauseRow) → Some (row_of (record { lits = []; picks = [] })) ≡ Some row → row.clause.lits ≡ []
    first_row row e = let same : row_of (record { lits = []; picks = [] }) ≡ row = cc in ap (λ (x : ClauseRow). x.clause.lits) (sym same)

-- ---- the root

module _ (problem : Problem) (trace : Trace) (rows : List (List ℕ)) (verdicts : List Verdict) where
  abbrev case : Case
  case = record { problem = problem; steps = trace.steps; rows = rows }

  mapped_step : {B : Type 0} (f : Step → B) (steps : List Step) (place : ℕ) (y : B) → slice_get (map f steps) place ≡ Some y → (step : Step) × (slice_get steps place ≡ Some step) × (f step ≡ y)
  mapped_step f [] place y e = absurd (cc)
  mapped_step f (step ∷ steps) zero y e = (step, refl, cc)
  mapped_step f (step ∷ steps) (suc place) y e = mapped_step f steps place y e

  not_barred : (b : Bool) → (Some b ≡ Some true → ⊥) → b ≡ false
  not_barred true h = absurd (h refl)
  not_barred false h = refl

  root_form : (root : ℕ) → IsRootAnswer (formulas_in trace) (barred_in problem trace) (Some root) → own_form case root ≡ nf.False
  root_form root (place, number, (false_there, free), first) =
      let w = mapped_step (λ step. step.formula) trace.steps place formula.False false_there in
      let at : step_in trace.steps root ≡ Some w.0 = subst (λ n. step_in trace.steps n ≡ Some w.0) (sym (number ∙ more place)) w.1 in
      let barred : slice_get (barred_in problem trace) place ≡ Some (is_conjecture_leaf problem w.0.source) =
      mapped (λ (step : Step). is_conjecture_leaf problem step.source) trace.steps place w.0 w.1 in
      let plain : is_conjecture_leaf problem w.0.source ≡ false = not_barred (is_conjecture_leaf problem w.0.source) (λ h. free (barred ∙ h)) in
      ap (form_of_step problem) at ∙ ap (λ b. normal_of w.0.formula (not b)) plain ∙ ap (λ f. normal_of f true) w.2 ∙ normal-False-true
    where
      more : (n : ℕ) → n + 1 ≡ suc n
      more n = omega arith

      mapped : {B : Type 0} (f : Step → B) (steps : List Step) (place : ℕ) (step : Step) → slice_get steps place ≡ Some step → slice_get (map f steps) place ≡ Some (f step)
      mapped f [] place step e = absurd (cc)
      mapped f (one ∷ steps) zero step e = let same : one ≡ step = cc in ap (λ x. Some (f x)) same
      mapped f (one ∷ steps) (suc place) step e = mapped f steps place step e

  listed_root : (root : ℕ) (clause : Clause) → IsClauseOf (judged_of case verdicts) (key root 0 0 []) clause
      → (r : Nf) × (row : ClauseRow) × Stands (judged_of case verdicts) root r × (slice_get (clause_rows r) 0 ≡ Some row) × (row.clause ≡ clause)
  listed_root root clause (listed _ _ _ r row stands at) = (r, row, stands, at, refl)

  pub root_clause_empty : AreRightSteps case verdicts → (root : ℕ) → IsRootAnswer (formulas_in trace) (barred_in problem trace) (Some root)
      → (clause : Clause) → IsClauseOf (judged_of case verdicts) (key root 0 0 []) clause → clause.lits ≡ []
  root_clause_empty right root is clause of =
      let w = listed_root root clause of in
      let like = representative_is_sorted case root w.0 (stands_represents case verdicts right.are right.right w.2) in
      let form : w.0 ≡ nf.False = sorted_false w.0 (subst (λ x. SameSorted x w.0) (root_form root is) like) in
      ap (λ (c : Clause). c.lits) (sym w.4) ∙ false_rows w.1 (subst (λ x. slice_get (clause_rows x) 0 ≡ Some w.1) form w.3)
