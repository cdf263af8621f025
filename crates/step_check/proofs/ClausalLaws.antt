-- Lists of justifications, chains, clause lists and verdicts, one item longer; and the first clause that doesn't follow.
use Rattle.std.proofs.Common.{◌≡◌, ◌+◌, ◌<◌, ◌≤◌, ℕ, zero, suc, List, [], ◌∷◌, ◌++◌, length, take, slice_get, Option, Some, None, ◌⊎◌, inl, inr, refl, sym, ap, ◌∙◌, subst, arith}
use Rattle.normal_form.specs.declared.clause_list.ClauseList.{ClauseList}
use Rattle.normal_form.specs.declared.clause_list.ClauseRow.{ClauseRow}
use Rattle.step_chain.specs.Chains.{HasNoChain, IsLeastChain}
use Rattle.step_chain.specs.declared.chain.Chain.{Chain}
use Rattle.step_check.proofs.OneRepresentative.{same_some}
use Rattle.step_check.proofs.OneVerdict.{chained_at, justified_at}
use Rattle.step_check.specs.Freshness.{HaveVerdicts}
use Rattle.step_check.specs.Steps.{Case}
use Rattle.step_check.specs.Verdicts.{AreChained, AreLists, Follows, FollowsNot, HasVerdict, IsFirstUnjustified, IsListAt}
use Rattle.step_check.specs.declared.verdict.Verdict.{Verdict}
use Rattle.step_clause.specs.Justifications.{IsJustification}
use Rattle.step_clause.specs.declared.justification.Justification.{Justification}
use Rattle.step_compose.specs.Composing.{AreJustified}

pub justified_more : (rows : List ClauseRow) (lists : List ClauseList) (steps : List Justification) (row : ClauseRow) (step : Justification) → AreJustified rows lists steps
    → IsJustification row.clause lists (Some step) → AreJustified (rows ++ row ∷ []) lists (steps ++ step ∷ [])
justified_more [] lists [] row step h k = (k, tt)
justified_more [] lists (s ∷ steps) row step h k = absurd h
justified_more (r ∷ rows) lists [] row step h k = absurd h
justified_more (r ∷ rows) lists (s ∷ steps) row step h k = (h.0, justified_more rows lists steps row step h.1 k)

pub chained_more : (rows : List ClauseRow) (lists : List ClauseList) (chains : List Chain) (row : ClauseRow) (chain : Chain) → AreChained rows lists chains
    → IsLeastChain row.clause lists chain → AreChained (rows ++ row ∷ []) lists (chains ++ chain ∷ [])
chained_more [] lists [] row chain h k = (k, tt)
chained_more [] lists (c ∷ chains) row chain h k = absurd h
chained_more (r ∷ rows) lists [] row chain h k = absurd h
chained_more (r ∷ rows) lists (c ∷ chains) row chain h k = (h.0, chained_more rows lists chains row chain h.1 k)

pub lists_more : (case : Case) (numbers : List ℕ) (lists : List ClauseList) (q : ℕ) (list : ClauseList) → AreLists case numbers lists → IsListAt case q list
    → AreLists case (numbers ++ q ∷ []) (lists ++ list ∷ [])
lists_more case [] [] q list h k = (k, tt)
lists_more case [] (l ∷ lists) q list h k = absurd h
lists_more case (n ∷ numbers) [] q list h k = absurd h
lists_more case (n ∷ numbers) (l ∷ lists) q list h k = (h.0, lists_more case numbers lists q list h.1 k)

pub lists_long : (case : Case) (numbers : List ℕ) (lists : List ClauseList) → AreLists case numbers lists → length lists ≡ length numbers
lists_long case [] [] h = refl
lists_long case [] (l ∷ lists) h = absurd h
lists_long case (n ∷ numbers) [] h = absurd h
lists_long case (n ∷ numbers) (l ∷ lists) h = ap suc (lists_long case numbers lists h.1)

-- ---- the first clause that doesn't follow

within_first : {A : Type 0} (l : List A) (k j : ℕ) (a : A) → j < k → slice_get l j ≡ Some a → slice_get (take k l) j ≡ Some a
within_first [] k j a less h = cc
within_first (x ∷ l) zero j a less h = absurd (omega arith)
within_first (x ∷ l) (suc k) zero a less h = h
within_first (x ∷ l) (suc k) (suc j) a less h = within_first l k j a (omega arith) h

pub first_unjustified : (rows : List ClauseRow) (lists : List ClauseList) (steps : List Justification) (k : ℕ) (row : ClauseRow) → length lists ≤ 2
    → AreJustified (take k rows) lists steps → slice_get rows k ≡ Some row → IsJustification row.clause lists None → IsFirstUnjustified lists rows k
first_unjustified rows lists steps k row few before at fails = record {
  earlier = λ j one less there. inl (few, justified_at (take k rows) lists steps before j one (within_first rows k j one less there));
  row = row;
  stands = at;
  fails = inl (few, fails);
}

pub first_unchained : (rows : List ClauseRow) (lists : List ClauseList) (chains : List Chain) (k : ℕ) (row : ClauseRow) → 2 < length lists
    → AreChained (take k rows) lists chains → slice_get rows k ≡ Some row → HasNoChain row.clause lists → IsFirstUnjustified lists rows k
first_unchained rows lists chains k row more before at fails = record {
  earlier = λ j one less there. inr (more, chained_at (take k rows) lists chains before j one (within_first rows k j one less there));
  row = row;
  stands = at;
  fails = inr (more, fails);
}

-- ---- verdicts

last_or_before : {A : Type 0} (l : List A) (x a : A) (k : ℕ) → slice_get (l ++ x ∷ []) k ≡ Some a → ((k ≡ length l) × (x ≡ a)) ⊎ (slice_get l k ≡ Some a)
last_or_before [] x a zero h = inl (refl, same_some (Some x) x a refl h)
last_or_before [] x a (suc k) h = cc
last_or_before (y ∷ l) x a zero h = inr h
last_or_before (y ∷ l) x a (suc k) h = elim (last_or_before l x a k h) [ inl same ↦ inl (ap suc same.0, same.1) | inr before ↦ inr before ]

pub verdicts_more : (case : Case) (before : ℕ) (verdicts : List Verdict) (verdict : Verdict) → HaveVerdicts case before verdicts
    → HasVerdict case (before + suc (length verdicts)) verdict → HaveVerdicts case before (verdicts ++ verdict ∷ [])
verdicts_more case before verdicts verdict h k place one at = elim (last_or_before verdicts verdict one place at) [
  | inl last ↦ subst (λ x. HasVerdict case (before + suc x) one) (sym last.0) (subst (λ (v : Verdict). HasVerdict case (before + suc (length verdicts)) v) last.1 k)
  | inr earlier ↦ h place one earlier
]
