-- What stands in the verdicts of a right trace is over symbols that all steps' formulas are over.
use Rattle.std.proofs.Common.{◌≡◌, ◌<◌, ℕ, zero, suc, Bool, true, false, not, List, [], ◌∷◌, ◌++◌, length, Option, Some, None, slice_get, refl, sym, ap, ◌∙◌, subst, inl, inr, arith}
use Rattle.dk_syntax.specs.Lists.{Every, every_cons, every_nil}
use Rattle.dk_syntax.specs.declared.clause.Clause.{Clause}
use Rattle.dk_syntax.specs.declared.symbol.SymKey.{SymKey}
use Rattle.ground_instances.proofs.StandsLaws.{verdict_at}
use Rattle.ground_instances.specs.Keys.{Has, image, own, sign_of, Stands}
use Rattle.normal_form.proofs.FormLaws.{form-True}
use Rattle.normal_form.specs.ClauseLists.{clause_rows}
use Rattle.normal_form.specs.Forms.{form_of}
use Rattle.normal_form.specs.declared.clause_list.ClauseList.{ClauseList}
use Rattle.normal_form.specs.declared.clause_list.ClauseRow.{ClauseRow}
use Rattle.normal_form.specs.declared.form.Nf.{Nf}
use Rattle.plan.proofs.FitOrigins.{own_fits}
use Rattle.plan.proofs.Membership.{Among}
use Rattle.plan.proofs.StepMaps.{entries_of}
use Rattle.plan.specs.Laws.{AreRightSteps, AreWellFormed, judged_of}
use Rattle.plan_symbols.proofs.FormSymbols.{IsFormOver}
use Rattle.plan_symbols.proofs.FormsOver.{image_over, IsEntryOver, IsFormulaOver, normal_over}
use Rattle.plan_symbols.proofs.RowsOver.{rows_over}
use Rattle.plan_symbols.specs.Known.{AreListsOver, AreRowsOver, IsClauseOver, JustificationOver}
use Rattle.plan_symbols.specs.Over.{IsListed}
use Rattle.step_chain.specs.Chains.{IsLeastChain}
use Rattle.step_chain.specs.declared.chain.Chain.{Chain}
use Rattle.step_check.proofs.OneRepresentative.{parent_one}
use Rattle.step_check.proofs.OneVerdict.{lists_numbered, one_verdict}
use Rattle.step_check.specs.Freshness.{freshened, introduced}
use Rattle.step_check.specs.Representatives as stand
use Rattle.step_check.specs.Representatives.{HasOneParent, IsFullWithin, IsWithin, MayCompose, Represents}
use Rattle.step_check.specs.Steps.{aliens_of, Case, form_of_step, is_conjecture_leaf, own_form, parents_of, step_in}
use Rattle.step_check.specs.Verdicts as is
use Rattle.step_check.specs.Verdicts.{AreChained, AreLists, HasVerdict, IsClausalVerdict, IsFlaggedVerdict, IsInferenceVerdict, IsListAt, IsOtherVerdict, IsPlainVerdict, IsWithinAll, map_of}
use Rattle.step_check.specs.declared.verdict.Verdict.{Verdict}
use Rattle.step_check.specs.declared.verdict.Verdict.TheVariants.{Chained, Clausal, Composes, Conjecture, Leaf, Over, Structural, Wrong}
use Rattle.step_clause.specs.Justifications.{AreNumbered, IsJustification}
use Rattle.step_clause.specs.declared.justification.Justification.{Justification}
use Rattle.step_compose.proofs.FullImages.{full_is_image}
use Rattle.step_compose.specs.Composing.{AreJustified, Composes as IsComposing, symbol_by}
use Rattle.step_compose.specs.FullImages.{full_image, full_map}
use Rattle.step_compose.specs.declared.composed.Composed.{Composed}
use Rattle.step_skolem.specs.Carrying.{carried}
use Rattle.step_skolem.specs.declared.map.SkEntry.{SkEntry}
use Rattle.tstp_trace.specs.declared.step.Step.{Step}

-- ---- lists

pub every_of : {X : Type 0} (P : X → Type 0) (xs : List X) → ((x : X) → Among xs x → P x) → Every P xs
every_of P [] h = every_nil
every_of P (x ∷ xs) h = every_cons (h x (inl refl)) (every_of P xs (λ y m. h y (inr m)))

below_of : {A : Type 0} (l : List A) (k : ℕ) (a : A) → slice_get l k ≡ Some a → k < length l
below_of [] k a h = absurd cc
below_of (b ∷ l) zero a h = omega arith
below_of (b ∷ l) (suc k) a h = omega (arith, below_of l k a h)

at_below : {A : Type 0} (l : List A) (k : ℕ) → k < length l → (a : A) × (slice_get l k ≡ Some a)
at_below [] k h = absurd (omega (arith, h))
at_below (b ∷ l) zero h = (b, refl)
at_below (b ∷ l) (suc k) h = at_below l k (omega (arith, h))

long_as : (known : List SymKey) (vs : List Verdict) → length (freshened known vs) ≡ length vs
long_as known [] = refl
long_as known (v ∷ vs) = let e = long_as (known ++ introduced v) vs in omega (arith, e)

-- ---- what stands in verdicts

-- the justifications and the middle clauses of the chain
pub record IsChainOver (symbols : List SymKey) (chain : Chain) : Type 0 where
  pub steps : Every (JustificationOver symbols) chain.steps
  pub mids : Every (IsClauseOver symbols) chain.mids

-- the justifications and the clauses of the composed image
pub record IsComposedOver (symbols : List SymKey) (composed : Composed) : Type 0 where
  pub steps : Every (JustificationOver symbols) composed.steps
  pub rows : AreRowsOver symbols composed.image.rows

-- what stands in the verdict is over the symbols
abbrev pub IsVerdictOver : List SymKey → Verdict → Type 0
IsVerdictOver symbols Leaf = Unit {0}
IsVerdictOver symbols Conjecture = Unit {0}
IsVerdictOver symbols (Structural map_here) = Unit {0}
IsVerdictOver symbols (Clausal steps) = Every (JustificationOver symbols) steps
IsVerdictOver symbols (Chained chains) = Every (IsChainOver symbols) chains
IsVerdictOver symbols (Composes composed) = IsComposedOver symbols composed
IsVerdictOver symbols (Wrong reason) = Unit {0}
IsVerdictOver symbols (Over limit) = Unit {0}

-- what most general substitutions put
pub record PutNoOthers (symbols : List SymKey) : Type 0 where
  pub justified : (target : Clause) (lists : List ClauseList) (step : Justification) → IsJustification target lists (Some step)
      → IsClauseOver symbols target → AreListsOver symbols lists → JustificationOver symbols step
  pub chained : (target : Clause) (lists : List ClauseList) (chain : Chain) → IsLeastChain target lists chain
      → AreNumbered lists → IsClauseOver symbols target → AreListsOver symbols lists → IsChainOver symbols chain

-- each step's formula is over the symbols, and each symbol that a step introduces is one of them
pub record AreStepsOver (case : Case) (list : List Verdict) (symbols : List SymKey) : Type 0 where
  pub steps : (i : ℕ) (step : Step) → step_in case.steps i ≡ Some step → IsFormulaOver symbols step.formula
  pub puts : (i : ℕ) (v : Verdict) → Has (judged_of case list) i v → (one : SkEntry) → Among (entries_of v) one → IsListed symbols one.symbol

module _ (case : Case) (list : List Verdict) (right : AreRightSteps case list) (formed : AreWellFormed case.steps) (symbols : List SymKey) (put : PutNoOthers symbols) (over : AreStepsOver case list symbols) where
  -- ---- forms

  own_by : (i : ℕ) (step : Option Step) → step_in case.steps i ≡ step → IsFormOver symbols (form_of (form_of_step case.problem step))
  own_by i None h = subst (IsFormOver symbols) (sym form-True) tt
  own_by i (Some step) h = normal_over symbols step.formula (not (is_conjecture_leaf case.problem step.source)) (over.steps i step h)

  pub own_over : (i : ℕ) → IsFormOver symbols (form_of (own_form case i))
  own_over i = own_by i (step_in case.steps i) refl

  pub entries_over : (i : ℕ) (v : Verdict) → Has (judged_of case list) i v → Every (IsEntryOver symbols) (entries_of v)
  entries_over i v has =
      every_of (IsEntryOver symbols) (entries_of v)
      (λ one m. record { fit = own_fits case formed (verdict_at case list right.are right.right i v has) one m; listed = over.puts i v has one m })

  pub stands_over : {i : ℕ} {r : Nf} → Stands (judged_of case list) i r → IsFormOver symbols (form_of r)
  stands_over (own i step v has base at) = normal_over symbols step.formula (sign_of v) (over.steps i step at)
  stands_over (image i q r s m has one up img) = image_over symbols r m.entries s img (entries_over i (Structural m) has) (stands_over up)

  has_some : (i : ℕ) (step : Step) → step_in case.steps i ≡ Some step → (v : Verdict) × Has (judged_of case list) i v
  has_some zero step h = absurd cc
  has_some (suc place) step h =
      let below = below_of case.steps place step h in
      let long : length list ≡ length case.steps = ap length right.are.2 ∙ long_as case.problem.symbols right.are.0 ∙ right.are.1.long in
      at_below list place (subst (λ n. place < n) (sym long) below)

  -- the verdict on a step is the list's
  has_verdict : (i : ℕ) (step : Step) (v : Verdict) → step_in case.steps i ≡ Some step → HasVerdict case i v → Has (judged_of case list) i v
  has_verdict i step v at h =
      let w = has_some i step at in
      let same : v ≡ w.0 = one_verdict case h w.0 (verdict_at case list right.are right.right i w.0 w.1) in
      subst (λ x. Has (judged_of case list) i x) (sym same) w.1

  within_all : (i q : ℕ) (r : Nf) → IsWithin case i → IsFullWithin case i q r → HasOneParent case i q → Represents case q r → IsWithinAll case i
  within_all i q r within full one rep = record {
    within = within;
    full = λ p may.
        let at : q ≡ p = parent_one case i q p one may.one in
        (r, subst (λ x. Represents case x r) at rep, full (subst (λ x. MayCompose case i x) (sym at) may));
  }

  pub represented_over : {i : ℕ} {r : Nf} → Represents case i r → IsFormOver symbols (form_of r)
  represented_over (stand.over i limit h) = own_over i
  represented_over (stand.over_full i q r limit within may up h) = own_over i
  represented_over (stand.leaf i name h) = own_over i
  represented_over (stand.unfit i cth esa derived h) = own_over i
  represented_over (stand.shapeless i cth esa derived h) = own_over i
  represented_over (stand.same i q r cth esa within full derived fit one like up) = represented_over up
  represented_over (stand.skolem i q r s cth entries within full derived fit one like up img) =
      let m = map_of (carried (own_form case q) r entries) in
      let verdict : HasVerdict case i (Structural m) = is.of_inference i cth true (Structural m) (within_all i q r within full one up) derived (is.skolem q r entries fit one refl like up) in
      image_over symbols r m.entries s img (entries_over i (Structural m) (has_verdict i derived.0 (Structural m) derived.2 verdict)) (represented_over up)

  -- ---- clauses

  own_rows : (i : ℕ) → AreRowsOver symbols (clause_rows (own_form case i))
  own_rows i = rows_over symbols (own_form case i) (own_over i)

  list_over : (q : ℕ) (l : ClauseList) → IsListAt case q l → AreRowsOver symbols l.rows
  list_over q l (r, rep, e) = subst (AreRowsOver symbols) (sym e) (rows_over symbols r (represented_over rep))

  lists_over : (parents : List ℕ) (lists : List ClauseList) → AreLists case parents lists → AreListsOver symbols lists
  lists_over [] [] h = every_nil
  lists_over [] (l ∷ lists) h = absurd h
  lists_over (q ∷ parents) [] h = absurd h
  lists_over (q ∷ parents) (l ∷ lists) h = every_cons (list_over q l h.0) (lists_over parents lists h.1)

  justified_over : (rows : List ClauseRow) (lists : List ClauseList) (steps : List Justification) → AreRowsOver symbols rows → AreListsOver symbols lists → AreJustified rows lists steps
      → Every (JustificationOver symbols) steps
  justified_over [] lists [] w l h = every_nil
  justified_over [] lists (step ∷ steps) w l h = absurd h
  justified_over (row ∷ rows) lists [] w l h = absurd h
  justified_over (row ∷ rows) lists (step ∷ steps) (every_cons i w) l h =
      every_cons (put.justified row.clause lists step h.0 i l) (justified_over rows lists steps w l h.1)

  chained_over : (rows : List ClauseRow) (lists : List ClauseList) (chains : List Chain) → AreNumbered lists → AreRowsOver symbols rows → AreListsOver symbols lists → AreChained rows lists chains
      → Every (IsChainOver symbols) chains
  chained_over [] lists [] n w l h = every_nil
  chained_over [] lists (chain ∷ chains) n w l h = absurd h
  chained_over (row ∷ rows) lists [] n w l h = absurd h
  chained_over (row ∷ rows) lists (chain ∷ chains) n (every_cons i w) l h =
      every_cons (put.chained row.clause lists chain h.0 n i l) (chained_over rows lists chains n w l h.1)

  clausal_over : {lists : List ClauseList} {rows : List ClauseRow} {v : Verdict} → AreNumbered lists → AreRowsOver symbols rows → AreListsOver symbols lists → IsClausalVerdict lists rows v → IsVerdictOver symbols v
  clausal_over {lists} {rows} k w l (is.clausal steps n h) = justified_over rows lists steps w l h
  clausal_over {lists} {rows} k w l (is.chained chains n h) = chained_over rows lists chains k w l h
  clausal_over k w l (is.unjustified number h) = tt

  plain_over : {i : ℕ} {v : Verdict} → IsPlainVerdict case i v → IsVerdictOver symbols v
  plain_over (is.has_exists h) = tt
  plain_over (is.alien symbol h k) = tt
  plain_over {i} (is.by_clauses lists v h k l c) = clausal_over (lists_numbered case (parents_of case i) lists l) (own_rows i) (lists_over (parents_of case i) lists l) c

  composed_over : (i : ℕ) (r : Nf) (composed : Composed) (places : List ℕ) → Has (judged_of case list) i (Composes composed) → IsFormOver symbols (form_of r)
      → IsComposing r (aliens_of case i) (clause_rows (own_form case i)) places composed → IsComposedOver symbols composed
  composed_over i r composed places has w c =
      let put_by = symbol_by (aliens_of case i) places in
      let entries = subst (Every (IsEntryOver symbols)) c.map_is (entries_over i (Composes composed) has) in
      let image = image_over symbols r (full_map put_by r) (full_image put_by r) (full_is_image put_by r) entries w in
      let rows = subst (AreRowsOver symbols) (sym c.image) (rows_over symbols (full_image put_by r) image) in
      record { steps = justified_over (clause_rows (own_form case i)) (composed.image ∷ []) composed.steps (own_rows i) (every_cons rows every_nil) c.steps; rows = rows }

  flagged_over : {i : ℕ} {v : Verdict} → Has (judged_of case list) i v → IsFlaggedVerdict case i v → IsVerdictOver symbols v
  flagged_over {i} has (is.composes q r composed may rep least) = composed_over i r composed least.0 has (represented_over rep) least.1
  flagged_over has (is.composes_not q r may rep none) = tt
  flagged_over has (is.in_no_question h) = tt

  other_over : (i : ℕ) (cth esa : Bool) (v : Verdict) → Has (judged_of case list) i v → IsOtherVerdict case i cth esa v → IsVerdictOver symbols v
  other_over i false false v has h = plain_over h
  other_over i true esa v has h = flagged_over has h
  other_over i false true v has h = flagged_over has h

  inference_over : {i : ℕ} {cth esa : Bool} {v : Verdict} → Has (judged_of case list) i v → IsInferenceVerdict case i cth esa v → IsVerdictOver symbols v
  inference_over has (is.conjecture_parent c h) = tt
  inference_over has (is.not_conjecture c h) = tt
  inference_over has (is.same q fit one like) = tt
  inference_over has (is.skolem q r entries fit one e like rep) = tt
  inference_over {i} {cth} {esa} has (is.other v fit nor o) = other_over i cth esa v has o

  leaf_over : {step : Step} {name : List ℕ} {v : Verdict} → is.IsLeafVerdict case step name v → IsVerdictOver symbols v
  leaf_over (is.unknown h) = tt
  leaf_over (is.altered item at h) = tt
  leaf_over (is.conjecture item at h k) = tt
  leaf_over (is.leaf item at h k) = tt

  by_verdict : {i : ℕ} {v : Verdict} → Has (judged_of case list) i v → HasVerdict case i v → IsVerdictOver symbols v
  by_verdict has (is.over i limit h) = tt
  by_verdict has (is.over_full i q r limit w may rep h) = tt
  by_verdict has (is.of_leaf i found name v bounds there from h) = leaf_over h
  by_verdict has (is.of_inference i cth esa v bounds derived h) = inference_over has h

  pub verdict_over : (i : ℕ) (v : Verdict) → Has (judged_of case list) i v → IsVerdictOver symbols v
  verdict_over i v has = by_verdict has (verdict_at case list right.are right.right i v has)
