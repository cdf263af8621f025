-- The links of a chain: which clause each one is added to, and from which list.
use Rattle.std.proofs.Common.{◌≡◌, ℕ, zero, suc, List, [], ◌∷◌, length, Some, slice_get, refl, sym, ap, subst}
use Rattle.dk_syntax.specs.declared.clause.Clause.{Clause}
use Rattle.normal_form.specs.declared.clause_list.ClauseList.{ClauseList}
use Rattle.normal_form.specs.declared.clause_list.ClauseRow.{ClauseRow}
use Rattle.step_chain.proofs.Numbered.{over_numbered}
use Rattle.step_chain.specs.Chains.{alone, IsContinuation, IsLeastChain}
use Rattle.step_chain.specs.Chains as go
use Rattle.step_chain.specs.Resolvents.{IsResolvent, Link}
use Rattle.step_clause.specs.Justifications.{IsJustification, IsNumbered}
use Rattle.step_clause.specs.declared.justification.Justification.{Justification}
use Rattle.ground_instances.proofs.OneVisit.{same_some}

-- ---- the links of a chain

-- the clause, with its number, to which a link of the chain is added after so many middle clauses
abbrev pub IsBefore : ℕ → Clause → List Clause → ℕ → ℕ → Clause → Type 0
IsBefore number start mids zero n before = (n ≡ number) × (before ≡ start)
IsBefore number start mids (suc j) n before = (n ≡ 0) × (slice_get mids j ≡ Some before)

before_later : (number : ℕ) (start one : Clause) (mids : List Clause) (j n : ℕ) (before : Clause) → IsBefore 0 one mids j n before → IsBefore number start (one ∷ mids) (suc j) n before
before_later number start one mids zero n before b = (b.0, ap Some (sym b.1))
before_later number start one mids (suc j) n before b = b

pub record IsLinkAt (number : ℕ) (start : Clause) (mids : List Clause) (lists : List ClauseList) (j : ℕ) (mid : Clause) (step : Justification) : Type 0 where
  pub n : ℕ
  pub before : Clause
  pub stands : IsBefore number start mids j n before
  pub numbered : IsNumbered before
  pub list : ClauseList
  pub here : slice_get lists j ≡ Some list
  pub row : ClauseRow
  pub link : Link
  pub at : slice_get list.rows link.number ≡ Some row
  pub made : IsResolvent n before row.clause link mid step

later : (number : ℕ) (start one : Clause) (mids : List Clause) (next : ClauseList) (lists : List ClauseList) (j : ℕ) (mid : Clause) (step : Justification) → IsLinkAt 0 one mids lists j mid step
    → IsLinkAt number start (one ∷ mids) (next ∷ lists) (suc j) mid step
later number start one mids next lists j mid step l =
    record { n = l.n; before = l.before; stands = before_later number start one mids j l.n l.before l.stands; numbered = l.numbered; list = l.list; here = l.here; row = l.row; link = l.link; at = l.at; made = l.made }

resolvent_numbered : (n : ℕ) (first second : Clause) (link : Link) (mid : Clause) (step : Justification) → IsResolvent n first second link mid step → IsNumbered mid
resolvent_numbered n first second link mid step r = subst IsNumbered (sym r.clause) (over_numbered r.lits)

pub link_at : (target : Clause) {number : ℕ} {start : Clause} {lists : List ClauseList} {links : List Link} {mids : List Clause} {steps : List Justification}
    → IsContinuation target number start lists links mids steps → IsNumbered start → (j : ℕ) (mid : Clause) (step : Justification) → slice_get mids j ≡ Some mid → slice_get steps j ≡ Some step
    → IsLinkAt number start mids lists j mid step
link_at target (go.ends number start last step is) n j mid one at here = absurd (cc)
link_at target (go.goes number start next rest link links row resolvent mids step steps in_list r more) n zero mid one at here =
    let e = same_some (Some resolvent) resolvent mid refl at in
    let s = same_some (Some step) step one refl here in
    record { n = number; before = start; stands = (refl, refl); numbered = n; list = next; here = refl; row = row; link = link; at = in_list; made = subst (λ x. IsResolvent number start row.clause link x one) e (subst (λ x. IsResolvent number start row.clause link resolvent x) s r) }
link_at target (go.goes number start next rest link links row resolvent mids step steps in_list r more) n (suc j) mid one at here =
    later number start resolvent mids next rest j mid one (link_at target more (resolvent_numbered number start row.clause link resolvent step r) j mid one at here)

-- the last justification, and the clause and the list that it is from
pub record IsEndAt (target : Clause) (number : ℕ) (start : Clause) (mids : List Clause) (lists : List ClauseList) (j : ℕ) (step : Justification) : Type 0 where
  pub n : ℕ
  pub before : Clause
  pub stands : IsBefore number start mids j n before
  pub numbered : IsNumbered before
  pub last : ClauseList
  pub here : slice_get lists j ≡ Some last
  pub justified : IsJustification target (alone before ∷ last ∷ []) (Some step)

end_later : (target : Clause) (number : ℕ) (start one : Clause) (mids : List Clause) (next : ClauseList) (lists : List ClauseList) (j : ℕ) (step : Justification) → IsEndAt target 0 one mids lists j step
    → IsEndAt target number start (one ∷ mids) (next ∷ lists) (suc j) step
end_later target number start one mids next lists j step l =
    record { n = l.n; before = l.before; stands = before_later number start one mids j l.n l.before l.stands; numbered = l.numbered; last = l.last; here = l.here; justified = l.justified }

pub end_at : (target : Clause) {number : ℕ} {start : Clause} {lists : List ClauseList} {links : List Link} {mids : List Clause} {steps : List Justification}
    → IsContinuation target number start lists links mids steps → IsNumbered start → (step : Justification) → slice_get steps (length mids) ≡ Some step → IsEndAt target number start mids lists (length mids) step
end_at target (go.ends number start last step is) n one here =
    let s = same_some (Some step) step one refl here in
    record { n = number; before = start; stands = (refl, refl); numbered = n; last = last; here = refl; justified = subst (λ x. IsJustification target (alone start ∷ last ∷ []) (Some x)) s is }
end_at target (go.goes number start next rest link links row resolvent mids step steps in_list r more) n one here =
    end_later target number start resolvent mids next rest (length mids) one (end_at target more (resolvent_numbered number start row.clause link resolvent step r) one here)

pub middle_count : (target : Clause) {number : ℕ} {start : Clause} {lists : List ClauseList} {links : List Link} {mids : List Clause} {steps : List Justification}
    → IsContinuation target number start lists links mids steps → length lists ≡ suc (length mids)
middle_count target (go.ends number start last step is) = refl
middle_count target (go.goes number start next rest link links row resolvent mids step steps in_list r more) = ap suc (middle_count target more)
