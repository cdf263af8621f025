-- What a verdict says of the step's clauses.
use Rattle.std.proofs.Common.{◌≡◌, ◌<◌, ℕ, zero, suc, Bool, true, false, List, [], ◌∷◌, length, get_or, Some, slice_get, refl, subst}
use Rattle.std.specs.List.{list_any}
use Rattle.normal_form.proofs.BoolLaws.{left_false}
use Rattle.normal_form.specs.ClauseLists.{clause_rows}
use Rattle.normal_form.specs.Existentials.{existential_in}
use Rattle.normal_form.specs.declared.clause_list.ClauseList.{ClauseList}
use Rattle.normal_form.specs.declared.clause_list.ClauseRow.{ClauseRow}
use Rattle.normal_form.specs.declared.form.Nf.{Nf}
use Rattle.std.proofs.lemmas.Option.{get_or_from_slice_get, slice_get_within}
use Rattle.step_chain.specs.Chains.{IsLeastChain}
use Rattle.step_chain.specs.declared.chain.Chain.{Chain}
use Rattle.step_check.specs.Freshness.{is_bad}
use Rattle.step_check.specs.Representatives.{HasOneParent, Represents, shapeless}
use Rattle.step_check.specs.Steps.{aliens_of, Case, own_form, parents_of}
use Rattle.step_check.specs.Verdicts.{AreChained, AreLists, HasVerdict, IsClausalVerdict, IsFlaggedVerdict, IsInferenceVerdict, IsListAt, IsOtherVerdict, IsPlainVerdict}
use Rattle.step_check.specs.Verdicts as is
use Rattle.step_check.specs.declared.verdict.Verdict.{Verdict}
use Rattle.step_check.specs.declared.verdict.Verdict.TheVariants.{Chained, Clausal, Composes, Conjecture, Leaf, Over, Structural, Wrong}
use Rattle.step_clause.specs.Justifications.{IsJustification, IsNumbered}
use Rattle.step_clause.specs.declared.justification.Justification.{Justification}
use Rattle.step_compose.proofs.NumberedLists.{rows_numbered}
use Rattle.step_compose.specs.Composing.{AreJustified, symbol_by}
use Rattle.step_compose.specs.Composing as composing
use Rattle.ground_instances.proofs.OneVisit.{same_some}
use Rattle.ground_instances.proofs.StandsLaws.{good}
use Rattle.ground_instances.specs.Keys.{IsLeafVerdict, IsOwnBase}

-- ---- what a verdict says of the step

module _ (case : Case) where
  -- the own form represents the step and has no existential
  abbrev pub IsOwnPlain : ℕ → Type 0
  IsOwnPlain i = Represents case i (own_form case i) × (existential_in (own_form case i) ≡ false)

  abbrev pub rows_at : ℕ → List ClauseRow
  rows_at i = clause_rows (own_form case i)

  abbrev pub Facts : ℕ → Verdict → Type 0
  Facts i Leaf = Unit {0}
  Facts i Conjecture = Unit {0}
  Facts i (Structural map_here) = Unit {0}
  Facts i (Clausal steps) = IsOwnPlain i × ((lists : List ClauseList) × AreLists case (parents_of case i) lists × AreJustified (rows_at i) lists steps)
  Facts i (Chained chains) = IsOwnPlain i × ((lists : List ClauseList) × AreLists case (parents_of case i) lists × (2 < length lists) × AreChained (rows_at i) lists chains)
  Facts i (Composes composed) =
      IsOwnPlain i
      × ((q : ℕ) × (r : Nf) × (places : List ℕ) × HasOneParent case i q × Represents case q r × composing.Composes r (aliens_of case i) (rows_at i) places composed)
  Facts i (Wrong reason) = Unit {0}
  Facts i (Over limit) = Unit {0}

  clausal_facts : (i : ℕ) (lists : List ClauseList) → IsOwnPlain i → AreLists case (parents_of case i) lists → {v : Verdict} → IsClausalVerdict lists (rows_at i) v → Facts i v
  clausal_facts i lists own at (is.clausal steps n a) = (own, (lists, at, a))
  clausal_facts i lists own at (is.chained chains n a) = (own, (lists, at, n, a))
  clausal_facts i lists own at (is.unjustified number first) = tt

  plain_facts : (i : ℕ) → Represents case i (own_form case i) → {v : Verdict} → IsPlainVerdict case i v → Facts i v
  plain_facts i rep (is.has_exists h) = tt
  plain_facts i rep (is.alien symbol h a) = tt
  plain_facts i rep (is.by_clauses lists v h a at c) =
      clausal_facts i lists (rep, left_false (existential_in (own_form case i)) (list_any (λ q. existential_in (own_form case q)) (parents_of case i)) h) at c

  flagged_facts : (i : ℕ) → Represents case i (own_form case i) → {v : Verdict} → IsFlaggedVerdict case i v → Facts i v
  flagged_facts i rep (is.composes q r composed may up least) = ((rep, may.plain), (q, r, least.0, may.one, up, least.1))
  flagged_facts i rep (is.composes_not q r may up none) = tt
  flagged_facts i rep (is.in_no_question none) = tt

  other_facts : (i : ℕ) (cth esa : Bool) → Represents case i (own_form case i) → (v : Verdict) → IsOtherVerdict case i cth esa v → Facts i v
  other_facts i false false rep v o = plain_facts i rep o
  other_facts i true esa rep v o = flagged_facts i rep o
  other_facts i false true rep v o = flagged_facts i rep o

  leaf_facts : (i : ℕ) {step : _} {name : _} {v : Verdict} → is.IsLeafVerdict case step name v → Facts i v
  leaf_facts i (is.unknown h) = tt
  leaf_facts i (is.altered item at h) = tt
  leaf_facts i (is.conjecture item at h k) = tt
  leaf_facts i (is.leaf item at h k) = tt

  pub facts : {i : ℕ} {v : Verdict} → HasVerdict case i v → Facts i v
  facts (is.over i limit h) = tt
  facts (is.over_full i q r limit within may rep h) = tt
  facts (is.of_leaf i step name v within at from h) = leaf_facts i h
  facts (is.of_inference i cth esa v within derived (is.conjecture_parent c h)) = tt
  facts (is.of_inference i cth esa v within derived (is.not_conjecture c h)) = tt
  facts (is.of_inference i cth esa v within derived (is.same q fit one like)) = tt
  facts (is.of_inference i cth esa v within derived (is.skolem q r entries fit one e like rep)) = tt
  facts (is.of_inference i cth esa v within derived (is.other _ fit nor o)) = other_facts i cth esa (shapeless i cth esa derived nor) v o

  -- so it is of a step that is neither structural nor a leaf nor bad
  pub plain_own : (i : ℕ) (v : Verdict) → Facts i v → IsOwnBase v → (IsLeafVerdict v → ⊥) → is_bad v ≡ false → IsOwnPlain i
  plain_own i Leaf f own none good = absurd (none tt)
  plain_own i Conjecture f own none good = absurd (none tt)
  plain_own i (Structural map_here) f own none good = absurd own
  plain_own i (Clausal steps) f own none good = f.0
  plain_own i (Chained chains) f own none good = f.0
  plain_own i (Composes composed) f own none good = f.0
  plain_own i (Wrong reason) f own none good = absurd (cc)
  plain_own i (Over limit) f own none good = absurd (cc)

  pub list_at : (parents : List ℕ) (lists : List ClauseList) (k : ℕ) (list : ClauseList) → AreLists case parents lists → slice_get lists k ≡ Some list → IsListAt case (get_or parents k 0) list
  list_at [] [] k list are at = cc
  list_at [] (one ∷ lists) k list are at = absurd are
  list_at (q ∷ parents) [] k list are at = absurd are
  list_at (q ∷ parents) (one ∷ lists) zero list are at = subst (IsListAt case q) (same_some (Some one) one list refl at) are.0
  list_at (q ∷ parents) (one ∷ lists) (suc k) list are at = list_at parents lists k list are.1 at

-- ---- items of lists

pub row_numbered_in : (rows : List ClauseRow) (n : Nf) → rows ≡ clause_rows n → (k : ℕ) (row : ClauseRow) → slice_get rows k ≡ Some row → IsNumbered row.clause
row_numbered_in rows n e k row at =
    let here : slice_get (clause_rows n) k ≡ Some row = subst (λ (x : List ClauseRow). slice_get x k ≡ Some row) e at in
    subst (λ (x : ClauseRow). IsNumbered x.clause) (get_or_from_slice_get (clause_rows n) k row row here) (rows_numbered n k row (slice_get_within (clause_rows n) k row here))

pub justified_row : (rows : List ClauseRow) (lists : List ClauseList) (steps : List Justification) → AreJustified rows lists steps → (c : ℕ) (step : Justification) → slice_get steps c ≡ Some step
    → (row : ClauseRow) × (slice_get rows c ≡ Some row) × IsJustification row.clause lists (Some step)
justified_row [] lists [] a c step at = absurd (cc)
justified_row [] lists (s ∷ steps) a c step at = absurd a
justified_row (row ∷ rows) lists [] a c step at = absurd a
justified_row (row ∷ rows) lists (s ∷ steps) a zero step at = (row, refl, subst (λ x. IsJustification row.clause lists (Some x)) (same_some (Some s) s step refl at) a.0)
justified_row (row ∷ rows) lists (s ∷ steps) a (suc c) step at = justified_row rows lists steps a.1 c step at

pub chained_row : (rows : List ClauseRow) (lists : List ClauseList) (chains : List Chain) → AreChained rows lists chains → (c : ℕ) (chain : Chain) → slice_get chains c ≡ Some chain
    → (row : ClauseRow) × (slice_get rows c ≡ Some row) × IsLeastChain row.clause lists chain
chained_row [] lists [] a c chain at = absurd (cc)
chained_row [] lists (s ∷ chains) a c chain at = absurd a
chained_row (row ∷ rows) lists [] a c chain at = absurd a
chained_row (row ∷ rows) lists (s ∷ chains) a zero chain at = (row, refl, subst (λ x. IsLeastChain row.clause lists x) (same_some (Some s) s chain refl at) a.0)
chained_row (row ∷ rows) lists (s ∷ chains) a (suc c) chain at = chained_row rows lists chains a.1 c chain at
