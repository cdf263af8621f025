-- What is built from is there where the instances are right.
use Rattle.std.proofs.Common.{◌≡◌, ◌+◌, ◌<◌, ℕ, zero, suc, Bool, List, [], ◌∷◌, ◌++◌, length, get_or, Option, None, Some, length-append, refl, sym, ap, ap₂, subst, ◌∙◌, arith}
use Rattle.std.specs.Prelude.{slice_get}
use Rattle.std.proofs.lemmas.List.{length-map}
use Rattle.std.proofs.lemmas.Option.{slice_get_past}
use Rattle.assemble.specs.Fitting.{eigenvariables_of, symbols_of}
use Rattle.assemble.specs.Justification.{Instance as TheoryInstance, Reason, Right, Works, clauses, works_denied, works_leaf, works_resolve, works_same, works_subsume}
use Rattle.assemble.specs.Problem.{theory_conclusion, theory_formulas}
use Rattle.development.proofs.LetSteps.{some_same}
use Rattle.development.specs.Buildable.{HasSign, IsMet}
use Rattle.development.specs.Laws.{PlansAreBuildable}
use Rattle.dk_syntax.specs.Lists.{Entry, entry_here, entry_later}
use Rattle.dk_syntax.specs.declared.Problem.{Problem}
use Rattle.expansion.specs.declared.thin.Thin.{Thin}
use Rattle.ground_instances.specs.Keys.{Judged}
use Rattle.ground_instances.specs.Lists.{instances_of}
use Rattle.ground_instances.specs.declared.instance.Instance.{Instance}
use Rattle.lp_term.specs.Typing.{Declaration}
use Rattle.nd_term.specs.Eigenvariables.{Eigenvariable}
use Rattle.nd_term.specs.Formulas.{Formula, GroundTerm, Literal}
use Rattle.nd_term.specs.Outputs.{output_literal}
use Rattle.nd_term.specs.ThinTrees.{Fits, ThinTree, fits_all, fits_all_eigenvariable, fits_all_vacuous, fits_and, fits_and_left, fits_and_right, fits_atom, fits_ex, fits_ex_eigenvariable, fits_ex_vacuous, fits_false, fits_iff_either, fits_iff_left, fits_iff_neither, fits_iff_right, fits_imp, fits_imp_left, fits_imp_right, fits_not, fits_or, fits_or_left, fits_or_right, fits_true}
use Rattle.nd_term.specs.TreeKinds.{leaves}
use Rattle.nd_term.specs.Views.{theory_formula}
use Rattle.plan.proofs.OneAnswer.{maps_are_one}
use Rattle.plan.specs.Laws.{AreRightSteps, judged_of}
use Rattle.plan.specs.Maps.{IsMapAnswer, IsStepMap, to_form, to_image}
use Rattle.plan.specs.Plans.{IsPlan}
use Rattle.plan.specs.Thins.{AreThins, IsThin, IsThinAnswer, of_form, of_image}
use Rattle.plan.specs.declared.maps.StepMap.{StepMap}
use Rattle.plan.specs.declared.plan.Plan.{Plan}
use Rattle.plan_typing.specs.Reasons.{reason_of, theory_instance, theory_instances, theory_instances_of}
use Rattle.step_check.specs.Steps.{Case, case_of}
use Rattle.tstp_trace.specs.declared.step.Trace.{Trace}

-- ---- reasons

entry_below : {A : Type 0} {l : List A} {k : ℕ} {a : A} → Entry l k a → k < length l
entry_below (entry_here a l) = omega arith
entry_below (entry_later b e) = let h = entry_below e in omega arith

both_leaves : {m n : ℕ} (c d : List Literal) → m ≡ length c → n ≡ length d → m + n ≡ length (c ++ d)
both_leaves c d e h = ap₂ (λ x y. x + y) e h ∙ sym (length-append c d)

module _ {sig : List Declaration} {es : List Eigenvariable} where
  -- a thin tree that fits has an end for each literal
  fits_leaves : {b : Bool} {f : Formula} {s : ℕ → GroundTerm} {tree : ThinTree} {c : List Literal} → Fits sig es b f s tree c → leaves tree ≡ length c
  fits_leaves (fits_atom b t s) = refl
  fits_leaves (fits_false s) = refl
  fits_leaves (fits_true s) = refl
  fits_leaves (fits_not b i) = fits_leaves i
  fits_leaves (fits_and_left h i) = fits_leaves i
  fits_leaves (fits_and_right f i) = fits_leaves i
  fits_leaves (fits_and {c = c} {d = d} i j) = both_leaves c d (fits_leaves i) (fits_leaves j)
  fits_leaves (fits_or {c = c} {d = d} i j) = both_leaves c d (fits_leaves i) (fits_leaves j)
  fits_leaves (fits_or_left h i) = fits_leaves i
  fits_leaves (fits_or_right f i) = fits_leaves i
  fits_leaves (fits_imp {c = c} {d = d} i j) = both_leaves c d (fits_leaves i) (fits_leaves j)
  fits_leaves (fits_imp_left h i) = fits_leaves i
  fits_leaves (fits_imp_right f i) = fits_leaves i
  fits_leaves (fits_iff_left {c = c} {d = d} i j) = both_leaves c d (fits_leaves i) (fits_leaves j)
  fits_leaves (fits_iff_right {c = c} {d = d} i j) = both_leaves c d (fits_leaves i) (fits_leaves j)
  fits_leaves (fits_iff_either {c = c} {d = d} i j) = both_leaves c d (fits_leaves i) (fits_leaves j)
  fits_leaves (fits_iff_neither {c = c} {d = d} i j) = both_leaves c d (fits_leaves i) (fits_leaves j)
  fits_leaves (fits_all o i) = fits_leaves i
  fits_leaves (fits_ex o i) = fits_leaves i
  fits_leaves (fits_ex_eigenvariable e p o i) = fits_leaves i
  fits_leaves (fits_all_eigenvariable e p o i) = fits_leaves i
  fits_leaves (fits_ex_vacuous u i) = fits_leaves i
  fits_leaves (fits_all_vacuous u i) = fits_leaves i

  works_met : {hs : List Formula} {c : Formula} {known : List (List Literal)} {d : List Literal} {r : Reason} → Works sig es hs c known d r → IsMet (length hs) (length known) (length d) r
  works_met (works_leaf e f) = (entry_below e, fits_leaves f)
  works_met (works_denied f) = fits_leaves f
  works_met (works_same e) = entry_below e
  works_met (works_subsume e k) = entry_below e
  works_met (works_resolve k l e f i j m n) = (entry_below e, entry_below f)

clauses_length : (front : List TheoryInstance) → length (clauses front) ≡ length front
clauses_length [] = refl
clauses_length (i ∷ front) = ap (λ n. suc n) (clauses_length front)

-- ---- the instances of a plan

-- a list with an instance of the plan at a number
record IsSplit (list : List TheoryInstance) (i : TheoryInstance) (number : ℕ) : Type 0 where
  pub front : List TheoryInstance
  pub back : List TheoryInstance
  pub is : list ≡ front ++ i ∷ back
  pub long : length front ≡ number

module _ (problem : Problem) (trace : Trace) (plan : Plan) where
  split_later : {list : List TheoryInstance} {i : TheoryInstance} {number : ℕ} (first : TheoryInstance) → IsSplit list i number → IsSplit (first ∷ list) i (suc number)
  split_later first s = record { front = first ∷ s.front; back = s.back; is = ap (λ l. first ∷ l) s.is; long = ap (λ n. suc n) s.long }

  split_here : (one it : Instance) (thin : Option Thin) (rest : List TheoryInstance) → one ≡ it → IsSplit (theory_instance problem trace plan one thin ∷ rest) (theory_instance problem trace plan it thin) 0
  split_here one it thin rest e = record { front = []; back = rest; is = ap (λ x. theory_instance problem trace plan x thin ∷ rest) e; long = refl }

  split_at : (instances : List Instance) (thins : List (Option Thin)) (number : ℕ) (it : Instance) → slice_get instances number ≡ Some it
      → IsSplit (theory_instances_of problem trace plan instances thins) (theory_instance problem trace plan it (get_or thins number None)) number
  split_at [] thins number it h = absurd (let e : slice_get {X = Instance} [] number ≡ None = slice_get_past [] number (omega arith) in cc)
  split_at (one ∷ rest) [] zero it h = split_here one it None (theory_instances_of problem trace plan rest []) (some_same refl h)
  split_at (one ∷ rest) [] (suc number) it h = split_later (theory_instance problem trace plan one None) (split_at rest [] number it h)
  split_at (one ∷ rest) (thin ∷ thins) zero it h = split_here one it thin (theory_instances_of problem trace plan rest thins) (some_same refl h)
  split_at (one ∷ rest) (thin ∷ thins) (suc number) it h = split_later (theory_instance problem trace plan one thin) (split_at rest thins number it h)

  met_at : (sig : List Declaration)
      → Right sig (eigenvariables_of plan.origins.list plan.order) (theory_formulas problem.hyps) (theory_conclusion problem.conjecture) (theory_instances problem trace plan)
      → (number : ℕ) (it : Instance) → slice_get (instances_of plan.instances) number ≡ Some it
      → IsMet (length problem.hyps) number (length it.lits) (reason_of problem trace plan it (get_or plan.thins number None))
  met_at sig right number it h =
      let thin = get_or plan.thins number None in
      let s = split_at (instances_of plan.instances) plan.thins number it h in
      let met = works_met (right.works s.front s.back (theory_instance problem trace plan it thin) s.is) in
      let reason = reason_of problem trace plan it thin in
      let clause = length-map it.lits (output_literal (symbols_of plan.origins.list) plan.order) in
      let known = clauses_length s.front ∙ s.long in
      let hyps = length-map problem.hyps (λ h. theory_formula h.formula) in
      subst (λ n. IsMet n number (length it.lits) reason) hyps
      (subst (λ n. IsMet (length (theory_formulas problem.hyps)) n (length it.lits) reason) known
      (subst (λ n. IsMet (length (theory_formulas problem.hyps)) (length (clauses s.front)) n reason) clause met))

-- ---- signs

thin_at : (judged : Judged) (instances : List Instance) (thins : List (Option Thin)) (number : ℕ) (it : Instance) → AreThins judged instances thins
    → slice_get instances number ≡ Some it → IsThinAnswer judged it (get_or thins number None)
thin_at judged [] thins number it a h = absurd (let e : slice_get {X = Instance} [] number ≡ None = slice_get_past [] number (omega arith) in cc)
thin_at judged (one ∷ rest) [] number it a h = absurd a
thin_at judged (one ∷ rest) (thin ∷ thins) zero it a h = subst (λ x. IsThinAnswer judged x thin) (some_same refl h) a.0
thin_at judged (one ∷ rest) (thin ∷ thins) (suc number) it a h = thin_at judged rest thins number it a.1 h

module _ (problem : Problem) (trace : Trace) (limit : ℕ) (plan : Plan) (h : IsPlan problem trace limit plan) where
  abbrev case : Case
  case = case_of problem trace plan.graph

  abbrev judged : Judged
  judged = judged_of case plan.verdicts.list

  right_steps : AreRightSteps case plan.verdicts.list
  right_steps = record { are = h.judged.verdicts; right = h.right; acyclic = h.judged.start.graph_is.1 }

  thin_sign : (it : Instance) (thin : Thin) (map : StepMap) → IsThin judged it thin → IsStepMap judged it.step map → thin.sign ≡ map.sign
  thin_sign it thin map (of_form t) m =
      ap (λ x. x.sign) t.tree
      ∙ (maps_are_one case plan.verdicts.list right_steps it.step t.leaf m.step.formula t.sign map.sign t.entries map.map.entries (to_form t.maps) m.maps).sign
  thin_sign it thin map (of_image t) m =
      ap (λ x. x.sign) t.tree
      ∙ (maps_are_one case plan.verdicts.list right_steps it.step t.leaf m.step.formula t.sign map.sign t.entries map.map.entries (to_image t.maps) m.maps).sign

  has_sign : (it : Instance) (thin : Option Thin) → IsThinAnswer judged it thin → HasSign plan it thin
  has_sign it None a = tt
  has_sign it (Some thin) a = λ map e. thin_sign it thin map a (subst (IsMapAnswer judged it.step) e (h.maps.each it.step))

  pub sign_at : (number : ℕ) (it : Instance) → slice_get (instances_of plan.instances) number ≡ Some it → HasSign plan it (get_or plan.thins number None)
  sign_at number it e = has_sign it (get_or plan.thins number None) (thin_at judged (instances_of plan.instances) plan.thins number it h.thins e)

-- ---- plans

pub plans_are_buildable : PlansAreBuildable
plans_are_buildable sig problem trace limit plan closed h right =
    record { closed = closed; signs = sign_at problem trace limit plan h; met = met_at problem trace plan sig right }
