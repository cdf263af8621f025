-- The ground clause of an instance follows from those of the instances that it needs.
use Rattle.std.proofs.Common.{◌≡◌, ◌<◌, ℕ, zero, suc, Bool, true, false, List, [], ◌∷◌, map, length, get_or, Some, None, slice_get, arith, refl, sym, ap, ◌∙◌, subst}
use Rattle.std.specs.List.{All, list_any}
use Rattle.dk_syntax.specs.Terms.{instance}
use Rattle.dk_syntax.specs.declared.clause.Clause.{Clause}
use Rattle.dk_syntax.specs.declared.clause.Literal.{Literal}
use Rattle.dk_syntax.specs.declared.term.Term.{Term}
use Rattle.normal_form.proofs.BoolLaws.{left_false}
use Rattle.normal_form.specs.ClauseLists.{clause_rows}
use Rattle.normal_form.specs.Existentials.{existential_in}
use Rattle.normal_form.specs.declared.clause_list.ClauseList.{ClauseList}
use Rattle.normal_form.specs.declared.clause_list.ClauseRow.{ClauseRow}
use Rattle.normal_form.specs.declared.form.Nf.{Nf}
use Rattle.std.proofs.lemmas.Option.{get_or_from_slice_get, slice_get_within}
use Rattle.step_chain.proofs.Numbered.{over_numbered}
use Rattle.step_chain.specs.Chains.{alone, IsContinuation, IsLeastChain}
use Rattle.step_chain.specs.Chains as go
use Rattle.step_chain.specs.Resolvents.{IsResolvent, Link, resolution_by}
use Rattle.step_chain.specs.declared.chain.Chain.{Chain}
use Rattle.step_check.proofs.OneRepresentative.{one_representative}
use Rattle.step_check.specs.Freshness.{AreVerdicts, is_bad, IsFirstBad}
use Rattle.step_check.specs.Representatives.{HasOneParent, Represents, shapeless}
use Rattle.step_check.specs.Steps.{aliens_of, Case, case_of, own_form, parents_of}
use Rattle.step_check.specs.Verdicts.{AreChained, AreLists, HasVerdict, IsClausalVerdict, IsFlaggedVerdict, IsInferenceVerdict, IsListAt, IsOtherVerdict, IsPlainVerdict}
use Rattle.step_check.specs.Verdicts as is
use Rattle.step_check.specs.declared.verdict.Verdict.{Verdict}
use Rattle.step_check.specs.declared.verdict.Verdict.TheVariants.{Chained, Clausal, Composes, Conjecture, Leaf, Over, Structural, Wrong}
use Rattle.step_clause.specs.Candidates.{IsClause}
use Rattle.step_clause.specs.Justifications.{IsJustification, IsNumbered}
use Rattle.step_clause.specs.declared.justification.Justification.{Justification}
use Rattle.step_clause.specs.declared.justification.Justification.TheVariants.{Resolve, Subsume}
use Rattle.step_compose.proofs.FullImages.{full_is_image}
use Rattle.step_compose.proofs.NumberedLists.{rows_numbered}
use Rattle.step_compose.specs.Composing.{AreJustified, symbol_by}
use Rattle.step_compose.specs.Composing as composing
use Rattle.step_compose.specs.FullImages.{full_image, full_map}
use Rattle.step_compose.specs.declared.composed.Composed.{Composed}
use Rattle.step_skolem.proofs.Unchanged.{unchanged_without_existentials}
use Rattle.ground_instances.proofs.GroundTruth.{resolvent_true, resolves_true, Sat, subsumes_true}
use Rattle.ground_instances.proofs.OneVisit.{one_has, same_item, same_some}
use Rattle.ground_instances.proofs.StandsLaws.{good, images, judged_of, stands_represents, verdict_at}
use Rattle.ground_instances.specs.Keys.{Has, image, imaged, IsBase, IsClauseOf, IsLeafBase, IsLeafVerdict, IsOwnBase, itself, Judged, judged_by, Key, key, listed, middle, parent_at, parents_at, Stands, through}
use Rattle.ground_instances.specs.Instances.{AreNumbers, HasNeedsBefore, IsInstance, key_of, keys_of}
use Rattle.ground_instances.specs.Laws.{AllFollow, Atoms, clause_holds, FollowsFromNeeded, IsGroundClause, IsTrue}
use Rattle.ground_instances.specs.Verdicts.{AreRightVerdicts}
use Rattle.ground_instances.specs.declared.instance.Instance.{Instance}
use Rattle.derivation_graph.specs.declared.graph.Graph.{Graph}
use Rattle.step_check.specs.declared.verdict.Verdicts.{Verdicts}
use Rattle.tstp_trace.specs.declared.step.Trace.{Trace}
use Rattle.ground_instances.specs.Needs.{by_base, by_chain, by_clauses, by_image, by_leaf, by_parent, by_stage, by_thin, ground, named_by, Needs, of_image, of_parents, of_stage, stage_before, value_in}

-- ---- what a verdict says of the step

module _ (case : Case) where
  -- the own form represents the step and has no existential
  abbrev IsOwnPlain : ℕ → Type 0
  IsOwnPlain i = Represents case i (own_form case i) × (existential_in (own_form case i) ≡ false)

  abbrev rows_at : ℕ → List ClauseRow
  rows_at i = clause_rows (own_form case i)

  abbrev Facts : ℕ → Verdict → Type 0
  Facts i Leaf = Unit {0}
  Facts i Conjecture = Unit {0}
  Facts i (Structural map_here) = Unit {0}
  Facts i (Clausal steps) = IsOwnPlain i × ((lists : List ClauseList) × AreLists case (parents_of case i) lists × AreJustified (rows_at i) lists steps)
  Facts i (Chained chains) = IsOwnPlain i × ((lists : List ClauseList) × AreLists case (parents_of case i) lists × (2 < length lists) × AreChained (rows_at i) lists chains)
  Facts i (Composes composed) =
      IsOwnPlain i
      × ((q : ℕ) × (r : Nf) × (places : List ℕ) × HasOneParent case i q × Represents case q r × composing.Composes r (aliens_of case i) (rows_at i) places composed)
  Facts i (Wrong reason) = Unit {0}
  Facts i (Over limit) = Unit {0}

  clausal_facts : (i : ℕ) (lists : List ClauseList) → IsOwnPlain i → AreLists case (parents_of case i) lists → {v : Verdict} → IsClausalVerdict lists (rows_at i) v → Facts i v
  clausal_facts i lists own at (is.clausal steps n a) = (own, (lists, at, a))
  clausal_facts i lists own at (is.chained chains n a) = (own, (lists, at, n, a))
  clausal_facts i lists own at (is.unjustified number first) = tt

  plain_facts : (i : ℕ) → Represents case i (own_form case i) → {v : Verdict} → IsPlainVerdict case i v → Facts i v
  plain_facts i rep (is.has_exists h) = tt
  plain_facts i rep (is.alien symbol h a) = tt
  plain_facts i rep (is.by_clauses lists v h a at c) =
      clausal_facts i lists (rep, left_false (existential_in (own_form case i)) (list_any (λ q. existential_in (own_form case q)) (parents_of case i)) h) at c

  flagged_facts : (i : ℕ) → Represents case i (own_form case i) → {v : Verdict} → IsFlaggedVerdict case i v → Facts i v
  flagged_facts i rep (is.composes q r composed may up least) = ((rep, may.plain), (q, r, least.0, may.one, up, least.1))
  flagged_facts i rep (is.composes_not q r may up none) = tt
  flagged_facts i rep (is.in_no_question none) = tt

  other_facts : (i : ℕ) (cth esa : Bool) → Represents case i (own_form case i) → (v : Verdict) → IsOtherVerdict case i cth esa v → Facts i v
  other_facts i false false rep v o = plain_facts i rep o
  other_facts i true esa rep v o = flagged_facts i rep o
  other_facts i false true rep v o = flagged_facts i rep o

  leaf_facts : (i : ℕ) {step : _} {name : _} {v : Verdict} → is.IsLeafVerdict case step name v → Facts i v
  leaf_facts i (is.unknown h) = tt
  leaf_facts i (is.altered item at h) = tt
  leaf_facts i (is.conjecture item at h k) = tt
  leaf_facts i (is.leaf item at h k) = tt

  facts : {i : ℕ} {v : Verdict} → HasVerdict case i v → Facts i v
  facts (is.over i limit h) = tt
  facts (is.over_full i q r limit within may rep h) = tt
  facts (is.of_leaf i step name v within at from h) = leaf_facts i h
  facts (is.of_inference i cth esa v within derived (is.conjecture_parent c h)) = tt
  facts (is.of_inference i cth esa v within derived (is.not_conjecture c h)) = tt
  facts (is.of_inference i cth esa v within derived (is.same q fit one like)) = tt
  facts (is.of_inference i cth esa v within derived (is.skolem q r entries fit one e like rep)) = tt
  facts (is.of_inference i cth esa v within derived (is.other _ fit nor o)) = other_facts i cth esa (shapeless i cth esa derived nor) v o

  -- so it is of a step that is neither structural nor a leaf nor bad
  plain_own : (i : ℕ) (v : Verdict) → Facts i v → IsOwnBase v → (IsLeafVerdict v → ⊥) → is_bad v ≡ false → IsOwnPlain i
  plain_own i Leaf f own none good = absurd (none tt)
  plain_own i Conjecture f own none good = absurd (none tt)
  plain_own i (Structural map_here) f own none good = absurd own
  plain_own i (Clausal steps) f own none good = f.0
  plain_own i (Chained chains) f own none good = f.0
  plain_own i (Composes composed) f own none good = f.0
  plain_own i (Wrong reason) f own none good = absurd (cc)
  plain_own i (Over limit) f own none good = absurd (cc)

  list_at : (parents : List ℕ) (lists : List ClauseList) (k : ℕ) (list : ClauseList) → AreLists case parents lists → slice_get lists k ≡ Some list → IsListAt case (get_or parents k 0) list
  list_at [] [] k list are at = cc
  list_at [] (one ∷ lists) k list are at = absurd are
  list_at (q ∷ parents) [] k list are at = absurd are
  list_at (q ∷ parents) (one ∷ lists) zero list are at = subst (IsListAt case q) (same_some (Some one) one list refl at) are.0
  list_at (q ∷ parents) (one ∷ lists) (suc k) list are at = list_at parents lists k list are.1 at

-- ---- items of lists

row_numbered_in : (rows : List ClauseRow) (n : Nf) → rows ≡ clause_rows n → (k : ℕ) (row : ClauseRow) → slice_get rows k ≡ Some row → IsNumbered row.clause
row_numbered_in rows n e k row at =
    let here : slice_get (clause_rows n) k ≡ Some row = subst (λ (x : List ClauseRow). slice_get x k ≡ Some row) e at in
    subst (λ (x : ClauseRow). IsNumbered x.clause) (get_or_from_slice_get (clause_rows n) k row row here) (rows_numbered n k row (slice_get_within (clause_rows n) k row here))

justified_row : (rows : List ClauseRow) (lists : List ClauseList) (steps : List Justification) → AreJustified rows lists steps → (c : ℕ) (step : Justification) → slice_get steps c ≡ Some step
    → (row : ClauseRow) × (slice_get rows c ≡ Some row) × IsJustification row.clause lists (Some step)
justified_row [] lists [] a c step at = absurd (cc)
justified_row [] lists (s ∷ steps) a c step at = absurd a
justified_row (row ∷ rows) lists [] a c step at = absurd a
justified_row (row ∷ rows) lists (s ∷ steps) a zero step at = (row, refl, subst (λ x. IsJustification row.clause lists (Some x)) (same_some (Some s) s step refl at) a.0)
justified_row (row ∷ rows) lists (s ∷ steps) a (suc c) step at = justified_row rows lists steps a.1 c step at

chained_row : (rows : List ClauseRow) (lists : List ClauseList) (chains : List Chain) → AreChained rows lists chains → (c : ℕ) (chain : Chain) → slice_get chains c ≡ Some chain
    → (row : ClauseRow) × (slice_get rows c ≡ Some row) × IsLeastChain row.clause lists chain
chained_row [] lists [] a c chain at = absurd (cc)
chained_row [] lists (s ∷ chains) a c chain at = absurd a
chained_row (row ∷ rows) lists [] a c chain at = absurd a
chained_row (row ∷ rows) lists (s ∷ chains) a zero chain at = (row, refl, subst (λ x. IsLeastChain row.clause lists x) (same_some (Some s) s chain refl at) a.0)
chained_row (row ∷ rows) lists (s ∷ chains) a (suc c) chain at = chained_row rows lists chains a.1 c chain at

-- ---- the links of a chain

-- the clause, with its number, to which a link of the chain is added after so many middle clauses
abbrev IsBefore : ℕ → Clause → List Clause → ℕ → ℕ → Clause → Type 0
IsBefore number start mids zero n before = (n ≡ number) × (before ≡ start)
IsBefore number start mids (suc j) n before = (n ≡ 0) × (slice_get mids j ≡ Some before)

before_later : (number : ℕ) (start one : Clause) (mids : List Clause) (j n : ℕ) (before : Clause) → IsBefore 0 one mids j n before → IsBefore number start (one ∷ mids) (suc j) n before
before_later number start one mids zero n before b = (b.0, ap Some (sym b.1))
before_later number start one mids (suc j) n before b = b

record IsLinkAt (number : ℕ) (start : Clause) (mids : List Clause) (lists : List ClauseList) (j : ℕ) (mid : Clause) (step : Justification) : Type 0 where
  n : ℕ
  before : Clause
  stands : IsBefore number start mids j n before
  numbered : IsNumbered before
  list : ClauseList
  here : slice_get lists j ≡ Some list
  row : ClauseRow
  link : Link
  at : slice_get list.rows link.number ≡ Some row
  made : IsResolvent n before row.clause link mid step

later : (number : ℕ) (start one : Clause) (mids : List Clause) (next : ClauseList) (lists : List ClauseList) (j : ℕ) (mid : Clause) (step : Justification) → IsLinkAt 0 one mids lists j mid step
    → IsLinkAt number start (one ∷ mids) (next ∷ lists) (suc j) mid step
later number start one mids next lists j mid step l =
    record { n = l.n; before = l.before; stands = before_later number start one mids j l.n l.before l.stands; numbered = l.numbered; list = l.list; here = l.here; row = l.row; link = l.link; at = l.at; made = l.made }

resolvent_numbered : (n : ℕ) (first second : Clause) (link : Link) (mid : Clause) (step : Justification) → IsResolvent n first second link mid step → IsNumbered mid
resolvent_numbered n first second link mid step r = subst IsNumbered (sym r.clause) (over_numbered r.lits)

link_at : (target : Clause) {number : ℕ} {start : Clause} {lists : List ClauseList} {links : List Link} {mids : List Clause} {steps : List Justification}
    → IsContinuation target number start lists links mids steps → IsNumbered start → (j : ℕ) (mid : Clause) (step : Justification) → slice_get mids j ≡ Some mid → slice_get steps j ≡ Some step
    → IsLinkAt number start mids lists j mid step
link_at target (go.ends number start last step is) n j mid one at here = absurd (cc)
link_at target (go.goes number start next rest link links row resolvent mids step steps in_list r more) n zero mid one at here =
    let e = same_some (Some resolvent) resolvent mid refl at in
    let s = same_some (Some step) step one refl here in
    record { n = number; before = start; stands = (refl, refl); numbered = n; list = next; here = refl; row = row; link = link; at = in_list; made = subst (λ x. IsResolvent number start row.clause link x one) e (subst (λ x. IsResolvent number start row.clause link resolvent x) s r) }
link_at target (go.goes number start next rest link links row resolvent mids step steps in_list r more) n (suc j) mid one at here =
    later number start resolvent mids next rest j mid one (link_at target more (resolvent_numbered number start row.clause link resolvent step r) j mid one at here)

-- the last justification, and the clause and the list that it is from
record IsEndAt (target : Clause) (number : ℕ) (start : Clause) (mids : List Clause) (lists : List ClauseList) (j : ℕ) (step : Justification) : Type 0 where
  n : ℕ
  before : Clause
  stands : IsBefore number start mids j n before
  numbered : IsNumbered before
  last : ClauseList
  here : slice_get lists j ≡ Some last
  justified : IsJustification target (alone before ∷ last ∷ []) (Some step)

end_later : (target : Clause) (number : ℕ) (start one : Clause) (mids : List Clause) (next : ClauseList) (lists : List ClauseList) (j : ℕ) (step : Justification) → IsEndAt target 0 one mids lists j step
    → IsEndAt target number start (one ∷ mids) (next ∷ lists) (suc j) step
end_later target number start one mids next lists j step l =
    record { n = l.n; before = l.before; stands = before_later number start one mids j l.n l.before l.stands; numbered = l.numbered; last = l.last; here = l.here; justified = l.justified }

end_at : (target : Clause) {number : ℕ} {start : Clause} {lists : List ClauseList} {links : List Link} {mids : List Clause} {steps : List Justification}
    → IsContinuation target number start lists links mids steps → IsNumbered start → (step : Justification) → slice_get steps (length mids) ≡ Some step → IsEndAt target number start mids lists (length mids) step
end_at target (go.ends number start last step is) n one here =
    let s = same_some (Some step) step one refl here in
    record { n = number; before = start; stands = (refl, refl); numbered = n; last = last; here = refl; justified = subst (λ x. IsJustification target (alone start ∷ last ∷ []) (Some x)) s is }
end_at target (go.goes number start next rest link links row resolvent mids step steps in_list r more) n one here =
    end_later target number start resolvent mids next rest (length mids) one (end_at target more (resolvent_numbered number start row.clause link resolvent step r) one here)

middle_count : (target : Clause) {number : ℕ} {start : Clause} {lists : List ClauseList} {links : List Link} {mids : List Clause} {steps : List Justification}
    → IsContinuation target number start lists links mids steps → length lists ≡ suc (length mids)
middle_count target (go.ends number start last step is) = refl
middle_count target (go.goes number start next rest link links row resolvent mids step steps in_list r more) = ap suc (middle_count target more)

-- ---- instances

module _ (case : Case) (verdicts : List Verdict) (are : AreVerdicts case verdicts) (right : IsFirstBad verdicts None) (atoms : Atoms) where
  abbrev judged : Judged
  judged = judged_of case verdicts

  abbrev True : Key → Type 0
  True one = IsTrue judged atoms one

  has_facts : (i : ℕ) (v : Verdict) → Has judged i v → Facts case i v
  has_facts i v h = facts case (verdict_at case verdicts are right i v h)

  represented : {i : ℕ} {r : Nf} → Stands judged i r → Represents case i r
  represented s = stands_represents case verdicts are right s

  -- what a true instance says of the clause that it is of
  true_at : (one : Key) (clause : Clause) → ((other : Clause) → IsClauseOf judged one other → other ≡ clause) → True one → Sat atoms (value_in one.terms) clause.lits
  true_at one clause same (lits, g, h) = subst (λ (c : Clause). Sat atoms (value_in one.terms) c.lits) (same g.clause g.of) (ap (clause_holds atoms) (sym g.is) ∙ h)

  ground_true : (one : Key) (lits : List Literal) → IsGroundClause judged one lits → (clause : Clause) → ((other : Clause) → IsClauseOf judged one other → other ≡ clause)
      → (length one.terms ≡ clause.vars → Sat atoms (value_in one.terms) clause.lits) → clause_holds atoms lits ≡ true
  ground_true one lits g clause same sat =
      let e = same g.clause g.of in
      ap (clause_holds atoms) (g.is ∙ ap (λ (c : Clause). map (instance (value_in one.terms)) c.lits) e) ∙ sat (g.each ∙ ap (λ (c : Clause). c.vars) e)

  -- ---- which clause an instance is of

  listed_clause : (q c : ℕ) (ts : List Term) {other : Clause} → IsClauseOf judged (key q 0 c ts) other
      → (r : Nf) × (row : ClauseRow) × Stands judged q r × (slice_get (clause_rows r) c ≡ Some row) × (row.clause ≡ other)
  listed_clause q c ts (listed _ _ _ r row stands at) = (r, row, stands, at, refl)

  same_listed : (q c : ℕ) (ts : List Term) (r : Nf) (row : ClauseRow) → Represents case q r → slice_get (clause_rows r) c ≡ Some row → (other : Clause) → IsClauseOf judged (key q 0 c ts) other → other ≡ row.clause
  same_listed q c ts r row rep at other o =
      let w = listed_clause q c ts o in
      let same : r ≡ w.0 = one_representative case rep w.0 (represented w.2) in
      sym w.4 ∙ ap (λ (x : ClauseRow). x.clause) (same_some (slice_get (clause_rows w.0) c) w.1 row w.3 (subst (λ x. slice_get (clause_rows x) c ≡ Some row) same at))

  same_in_list : (q c : ℕ) (ts : List Term) (list : ClauseList) (row : ClauseRow) → IsListAt case q list → slice_get list.rows c ≡ Some row → (other : Clause) → IsClauseOf judged (key q 0 c ts) other → other ≡ row.clause
  same_in_list q c ts list row is at other o = same_listed q c ts is.0 row is.1 (subst (λ x. slice_get x c ≡ Some row) is.2 at) other o

  staged : (i j c : ℕ) (ts : List Term) (chains : List Chain) (chain : Chain) → Has judged i (Chained chains) → slice_get chains c ≡ Some chain
      → {other : Clause} → IsClauseOf judged (key i (suc j) c ts) other → slice_get chain.mids j ≡ Some other
  staged i j c ts chains chain has here (middle _ _ _ _ chains' chain' clause' has' here' at') =
      let e = one_has judged i (Chained chains') (Chained chains) has' has in
      let l : chains' ≡ chains = cc in
      let d : chain' ≡ chain = same_some (slice_get chains c) chain' chain (subst (λ x. slice_get x c ≡ Some chain') l here') here in
      subst (λ (x : Chain). slice_get x.mids j ≡ Some clause') d at'
  staged i _ c ts chains chain has here (imaged _ _ _ composed row has' at') = let e = one_has judged i (Composes composed) (Chained chains) has' has in cc

  image_row : (i c : ℕ) (ts : List Term) (composed : Composed) → Has judged i (Composes composed) → {other : Clause} → IsClauseOf judged (key i 1 c ts) other
      → (row : ClauseRow) × (slice_get composed.image.rows c ≡ Some row) × (row.clause ≡ other)
  image_row i c ts composed has (middle _ _ _ _ chains chain clause has' here at) = absurd (let e = one_has judged i (Chained chains) (Composes composed) has' has in cc)
  image_row i c ts composed has (imaged _ _ _ composed' row has' at) =
      let e = one_has judged i (Composes composed') (Composes composed) has' has in
      let l : composed' ≡ composed = cc in
      (row, subst (λ (x : Composed). slice_get x.image.rows c ≡ Some row) l at, refl)

  same_image : (i c : ℕ) (ts : List Term) (composed : Composed) (row : ClauseRow) → Has judged i (Composes composed) → slice_get composed.image.rows c ≡ Some row → (other : Clause)
      → IsClauseOf judged (key i 1 c ts) other → other ≡ row.clause
  same_image i c ts composed row has at other o =
      let w = image_row i c ts composed has o in sym w.2 ∙ ap (λ (x : ClauseRow). x.clause) (same_some (slice_get composed.image.rows c) w.0 row w.1 at)

  -- ---- justifications

  -- the clauses of the lists have these names, and their variables are below their numbers of variables
  abbrev AreNamed : (ℕ → ℕ → List Term → Key) → List ClauseList → Type 0
  AreNamed at lists = (k c : ℕ) (clause : Clause) → IsClause lists k c clause → IsNumbered clause × ((ts : List Term) → True (at k c ts) → Sat atoms (value_in ts) clause.lits)

  justified : (at : ℕ → ℕ → List Term → Key) (terms : List Term) (target : Clause) (lists : List ClauseList) (step : Justification) → length terms ≡ target.vars → AreNamed at lists
      → IsJustification target lists (Some step) → All True (named_by at terms step) → Sat atoms (value_in terms) target.lits
  justified at terms target lists (Subsume parent number picks ts) long named (least, (clause, there, (t, (works, further), e))) all =
      let n = named parent number clause there in
      let h = n.1 (map (ground terms) ts) (all zero (at parent number (map (ground terms) ts)) (omega arith)) in
      subsumes_true atoms terms target clause picks t long n.0 works (subst (λ x. Sat atoms (value_in (map (ground terms) x)) clause.lits) e h)
  justified at terms target lists (Resolve p c q d picks others ts us) long named (least, (first, second, there, here, (t, u, (works, further), e, f))) all =
      let n = named p c first there in
      let m = named q d second here in
      let h = n.1 (map (ground terms) ts) (all zero (at p c (map (ground terms) ts)) (omega arith)) in
      let g = m.1 (map (ground terms) us) (all 1 (at q d (map (ground terms) us)) (omega arith)) in
      resolves_true atoms terms target first second picks others t u long n.0 m.0 works (subst (λ x. Sat atoms (value_in (map (ground terms) x)) first.lits) e h)
      (subst (λ x. Sat atoms (value_in (map (ground terms) x)) second.lits) f g)

  both_named : (at : ℕ → ℕ → List Term → Key) (terms : List Term) (sign : Bool) (n m : ℕ) (ps qs : List ℕ) (ts us : List Term) → All True (named_by at terms (resolution_by sign n m ps qs ts us))
      → True (at 0 n (map (ground terms) ts)) × True (at 1 m (map (ground terms) us))
  both_named at terms true n m ps qs ts us all = (all zero (at 0 n (map (ground terms) ts)) (omega arith), all 1 (at 0 n (map (ground terms) ts)) (omega arith))
  both_named at terms false n m ps qs ts us all = (all 1 (at 0 n (map (ground terms) ts)) (omega arith), all zero (at 0 n (map (ground terms) ts)) (omega arith))

  resolvent : (at : ℕ → ℕ → List Term → Key) (terms : List Term) (n : ℕ) (first second : Clause) (link : Link) (mid : Clause) (step : Justification) → length terms ≡ mid.vars
      → IsNumbered first → IsNumbered second → ((ts : List Term) → True (at 0 n ts) → Sat atoms (value_in ts) first.lits) → ((ts : List Term) → True (at 1 link.number ts) → Sat atoms (value_in ts) second.lits)
      → IsResolvent n first second link mid step → All True (named_by at terms step) → Sat atoms (value_in terms) mid.lits
  resolvent at terms n first second link mid step long one two h g r all =
      let both = both_named at terms link.sign n link.number r.picks r.other_picks _ _ (subst (λ x. All True (named_by at terms x)) r.justified all) in
      subst (λ (c : Clause). Sat atoms (value_in terms) c.lits) (sym r.clause)
      (resolvent_true atoms terms link.sign first second link.taken link.others r.t r.u r.lits (long ∙ ap (λ (c : Clause). c.vars) r.clause) one two r.general.0 r.once (h _ both.0) (g _ both.1))

  -- ---- the lists of a step's parents

  row_numbered : (q : ℕ) (list : ClauseList) (c : ℕ) (row : ClauseRow) → IsListAt case q list → slice_get list.rows c ≡ Some row → IsNumbered row.clause
  row_numbered q list c row is at = row_numbered_in list.rows is.0 is.2 c row at

  parents_named : (i : ℕ) (lists : List ClauseList) → AreLists case (parents_of case i) lists → AreNamed (of_parents judged i) lists
  parents_named i lists at k c clause (list, row, here, there, e) =
      let is = list_at case (parents_of case i) lists k list at here in (
        subst IsNumbered e (row_numbered (parent_at judged i k) list c row is there),
        λ ts. true_at (key (parent_at judged i k) 0 c ts) clause (λ other o. same_in_list (parent_at judged i k) c ts list row is there other o ∙ e),
      )

  image_named : (i q : ℕ) (r : Nf) (composed : Composed) → Has judged i (Composes composed) → composed.image.rows ≡ clause_rows r → AreNamed (of_image judged i) (composed.image ∷ [])
  image_named i q r composed has rows zero c clause (list, row, here, there, e) =
      let l : composed.image ≡ list = same_some (Some composed.image) composed.image list refl here in
      let there' : slice_get composed.image.rows c ≡ Some row = subst (λ (x : ClauseList). slice_get x.rows c ≡ Some row) (sym l) there in (
        subst IsNumbered e (row_numbered_in composed.image.rows r rows c row there'),
        λ ts. true_at (key i 1 c ts) clause (λ other o. same_image i c ts composed row has there' other o ∙ e),
      )
  image_named i q r composed has rows (suc k) c clause (list, row, here, there, e) = absurd (cc)

  -- ---- bases

  base_own : {i base : ℕ} → IsBase judged i base → (v : Verdict) × Has judged base v × IsOwnBase v
  base_own (itself i v h own) = (v, h, own)
  base_own (through i q base m h one b) = base_own b

  base_plain : (i base : ℕ) (r : Nf) → IsBase judged i base → (IsLeafBase judged i → ⊥) → Stands judged base r → existential_in r ≡ false
  base_plain i base r b none stands =
      let w = base_own b in
      let plain = plain_own case base w.0 (has_facts base w.0 w.1) w.2 (λ leaf. none (base, w.0, b, w.1, leaf)) (good case verdicts are right base w.0 w.1) in
      ap existential_in (one_representative case (represented stands) (own_form case base) plain.0) ∙ plain.1

  -- a form without existentials that represents the base represents the step
  base_stands : {i base : ℕ} → IsBase judged i base → (r : Nf) → existential_in r ≡ false → Stands judged base r → Stands judged i r
  base_stands (itself i v h own) r plain stands = stands
  base_stands (through i q base m h one b) r plain stands =
      let up = base_stands b r plain stands in
      let w = images case verdicts are right i q r m h one up in
      let same : w.0 ≡ r = (unchanged_without_existentials r w.0 m.entries plain w.1).1 in
      subst (Stands judged i) same (image i q r w.0 m h one up w.1)

  base_true : (base c : ℕ) (terms : List Term) (row : ClauseRow) (r : Nf) → Represents case base r → slice_get (clause_rows r) c ≡ Some row → True (key base 0 c terms) → Sat atoms (value_in terms) row.clause.lits
  base_true base c terms row r rep at is = true_at (key base 0 c terms) row.clause (λ other o. same_listed base c terms r row rep at other o) is

  -- the form of the base
  base_form : (base c : ℕ) (terms : List Term) → True (key base 0 c terms) → (r : Nf) × Stands judged base r
  base_form base c terms (lits, g, h) = let w = listed_clause base c terms g.of in (w.0, w.2)

  by_base_true : (i base c : ℕ) (terms : List Term) → (IsLeafBase judged i → ⊥) → IsBase judged i base → (lits : List Literal) → IsGroundClause judged (key i 0 c terms) lits → True (key base 0 c terms)
      → clause_holds atoms lits ≡ true
  by_base_true i base c terms none b lits g is =
      let f = base_form base c terms is in
      let up = base_stands b f.0 (base_plain i base f.0 b none f.1) f.1 in
      let w = listed_clause i c terms g.of in
      let same : w.0 ≡ f.0 = one_representative case (represented w.2) f.0 (represented up) in
      ground_true (key i 0 c terms) lits g w.1.clause (λ other o. same_listed i c terms w.0 w.1 (represented w.2) w.3 other o)
      (λ long. base_true base c terms w.1 f.0 (represented f.1) (subst (λ x. slice_get (clause_rows x) c ≡ Some w.1) same w.3) is)

  by_parent_true : (i q base c : ℕ) (terms : List Term) (composed : Composed) → Has judged i (Composes composed) → parents_at judged i ≡ q ∷ [] → (IsLeafBase judged q → ⊥) → IsBase judged q base
      → (lits : List Literal) → IsGroundClause judged (key i 1 c terms) lits → True (key base 0 c terms) → clause_holds atoms lits ≡ true
  by_parent_true i q base c terms composed has one none b lits g is =
      let f = base_form base c terms is in
      let plain = base_plain q base f.0 b none f.1 in
      let up = base_stands b f.0 plain f.1 in
      let d = (has_facts i (Composes composed) has).1 in
      let at_q : d.0 ≡ q = same_item (parents_at judged i) d.0 q d.3 one in
      let same : d.1 ≡ f.0 = one_representative case d.4 f.0 (subst (λ x. Represents case x f.0) (sym at_q) (represented up)) in
      let symbols = symbol_by (aliens_of case i) d.2 in
      let unchanged = (unchanged_without_existentials d.1 (full_image symbols d.1) (full_map symbols d.1) (ap existential_in same ∙ plain) (full_is_image symbols d.1)).1 in
      let rows : composed.image.rows ≡ clause_rows f.0 = d.5.image ∙ ap clause_rows (unchanged ∙ same) in
      let w = image_row i c terms composed has g.of in
      ground_true (key i 1 c terms) lits g w.0.clause (λ other o. same_image i c terms composed w.0 has w.1 other o)
      (λ long. base_true base c terms w.0 f.0 (represented f.1) (subst (λ x. slice_get x c ≡ Some w.0) rows w.1) is)

  -- ---- chains

  module _ (i c : ℕ) (chains : List Chain) (chain : Chain) (has : Has judged i (Chained chains)) (here : slice_get chains c ≡ Some chain) where
    before_true : (first : ClauseList) (start : ℕ) (row : ClauseRow) → IsListAt case (parent_at judged i 0) first → slice_get first.rows start ≡ Some row → (j n : ℕ) (before : Clause)
        → IsBefore start row.clause chain.mids j n before → (ts : List Term) → True (stage_before judged i c j n ts) → Sat atoms (value_in ts) before.lits
    before_true first start row is at zero n before (e, s) ts h =
        true_at (key (parent_at judged i 0) 0 n ts) before
        (λ other o. same_in_list (parent_at judged i 0) n ts first row is (subst (λ m. slice_get first.rows m ≡ Some row) (sym e) at) other o ∙ sym s) h
    before_true first start row is at (suc k) n before (e, s) ts h =
        true_at (key i (suc k) c ts) before (λ other o. same_some (slice_get chain.mids k) other before (staged i k c ts chains chain has here o) s) h

    after_true : (j m : ℕ) (list : ClauseList) (row : ClauseRow) → IsListAt case (parent_at judged i (suc j)) list → slice_get list.rows m ≡ Some row
        → (ts : List Term) → True (of_stage judged i c j 1 m ts) → Sat atoms (value_in ts) row.clause.lits
    after_true j m list row is at ts h =
        true_at (key (parent_at judged i (suc j)) 0 m ts) row.clause (λ other o. same_in_list (parent_at judged i (suc j)) m ts list row is at other o) h

    end_named : (first : ClauseList) (start : ℕ) (row : ClauseRow) → IsListAt case (parent_at judged i 0) first → slice_get first.rows start ≡ Some row → (k : ℕ) (before : Clause) (last : ClauseList)
        → slice_get chain.mids k ≡ Some before → IsNumbered before → IsListAt case (parent_at judged i (suc (suc k))) last → AreNamed (of_stage judged i c (suc k)) (alone before ∷ last ∷ [])
    end_named first start row is at k before last stands numbered in_last zero n clause (list, one, there, row_at, e) =
        let l : alone before ≡ list = same_some (Some (alone before)) (alone before) list refl there in
        let same = alone_row before n one (subst (λ (x : ClauseList). slice_get x.rows n ≡ Some one) (sym l) row_at) ∙ e in (
          subst IsNumbered same numbered,
          λ ts h. subst (λ (x : Clause). Sat atoms (value_in ts) x.lits) same
              (true_at (key i (suc k) c ts) before (λ other o. same_some (slice_get chain.mids k) other before (staged i k c ts chains chain has here o) stands) h),
        )
      where
        alone_row : (clause : Clause) (n : ℕ) (row : ClauseRow) → slice_get (alone clause).rows n ≡ Some row → clause ≡ row.clause
        alone_row clause zero row h = ap (λ (x : ClauseRow). x.clause) (same_some (slice_get (alone clause).rows 0) (record { clause = clause; quants = []; picks = [] }) row refl h)
        alone_row clause (suc n) row h = absurd (cc)
    end_named first start row is at k before last stands numbered in_last (suc zero) n clause (list, one, there, row_at, e) =
        let l : last ≡ list = same_some (Some last) last list refl there in
        let at' : slice_get last.rows n ≡ Some one = subst (λ (x : ClauseList). slice_get x.rows n ≡ Some one) (sym l) row_at in (
          subst IsNumbered e (row_numbered (parent_at judged i (suc (suc k))) last n one in_last at'),
          λ ts h. subst (λ (x : Clause). Sat atoms (value_in ts) x.lits) e (after_true (suc k) n last one in_last at' ts h),
        )
    end_named first start row is at k before last stands numbered in_last (suc (suc m)) n clause (list, one, there, row_at, e) = absurd (cc)

    by_stage_true : (j : ℕ) (terms : List Term) (step : Justification) → slice_get chain.steps j ≡ Some step → (lits : List Literal) → IsGroundClause judged (key i (suc j) c terms) lits
        → All True (named_by (of_stage judged i c j) terms step) → clause_holds atoms lits ≡ true
    by_stage_true j terms step at lits g all =
        let f = (has_facts i (Chained chains) has).1 in
        let row = chained_row (rows_at case i) f.0 chains f.3 c chain here in
        let w = row.2.1 in
        let start = row.2.0.start in
        let known = subst (AreLists case (parents_of case i)) w.whole f.1 in
        let is = list_at case (parents_of case i) (w.first ∷ w.rest) 0 w.first known refl in
        let mid = staged i j c terms chains chain has here g.of in
        let l = link_at row.0.clause w.continues (row_numbered (parent_at judged i 0) w.first start w.row is w.at) j g.clause step mid at in
        let after = list_at case (parents_of case i) (w.first ∷ w.rest) (suc j) l.list known l.here in
        ap (clause_holds atoms) g.is
        ∙ resolvent (of_stage judged i c j) terms l.n l.before l.row.clause l.link g.clause step g.each l.numbered (row_numbered (parent_at judged i (suc j)) l.list l.link.number l.row after l.at)
        (before_true w.first start w.row is w.at j l.n l.before l.stands) (after_true j l.link.number l.list l.row after l.at) l.made all

    by_chain_true : (terms : List Term) (step : Justification) → slice_get chain.steps (length chain.mids) ≡ Some step → (lits : List Literal) → IsGroundClause judged (key i 0 c terms) lits
        → All True (named_by (of_stage judged i c (length chain.mids)) terms step) → clause_holds atoms lits ≡ true
    by_chain_true terms step at lits g all =
        let f = has_facts i (Chained chains) has in
        let row = chained_row (rows_at case i) f.1.0 chains f.1.3 c chain here in
        let w = row.2.1 in
        let start = row.2.0.start in
        let known = subst (AreLists case (parents_of case i)) w.whole f.1.1 in
        let is = list_at case (parents_of case i) (w.first ∷ w.rest) 0 w.first known refl in
        let l = end_at row.0.clause w.continues (row_numbered (parent_at judged i 0) w.first start w.row is w.at) step at in
        let count = middle_count row.0.clause w.continues in
        let size = ap length w.whole in
        let many = f.1.2 in
        ground_true (key i 0 c terms) lits g row.0.clause (λ other o. same_listed i c terms (own_form case i) row.0 f.0.0 row.1 other o)
        (λ long. by_length w.first start w.row is w.at w.rest known row.0.clause long (length chain.mids) (omega (arith, count, size, many)) l all)
      where
        by_length : (first : ClauseList) (start : ℕ) (one : ClauseRow) → IsListAt case (parent_at judged i 0) first → slice_get first.rows start ≡ Some one → (rest : List ClauseList)
            → AreLists case (parents_of case i) (first ∷ rest) → (clause : Clause) → length terms ≡ clause.vars → (m : ℕ) → 0 < m → IsEndAt clause start one.clause chain.mids rest m step
            → All True (named_by (of_stage judged i c m) terms step) → Sat atoms (value_in terms) clause.lits
        by_length first start one is at rest known clause long zero less l all = absurd (omega (arith, less))
        by_length first start one is at rest known clause long (suc k) less l all =
            let in_last = list_at case (parents_of case i) (first ∷ rest) (suc (suc k)) l.last known l.here in
            justified (of_stage judged i c (suc k)) terms clause (alone l.before ∷ l.last ∷ []) step long (end_named first start one is at k l.before l.last l.stands.1 l.numbered in_last) l.justified all

  -- ---- each case

  consequence : {one : Key} {needed : List Key} → Needs judged one needed → (needed ≡ [] → ⊥) → (lits : List Literal) → IsGroundClause judged one lits → All True needed → clause_holds atoms lits ≡ true
  consequence (by_leaf i c terms leaf) some lits g all = absurd (some refl)
  consequence (by_base i base c terms m has none b) some lits g all = by_base_true i base c terms none b lits g (all zero (key base 0 c terms) (omega arith))
  consequence (by_clauses i c terms steps step has at) some lits g all =
      let f = has_facts i (Clausal steps) has in
      let row = justified_row (rows_at case i) f.1.0 steps f.1.2 c step at in
      ground_true (key i 0 c terms) lits g row.0.clause (λ other o. same_listed i c terms (own_form case i) row.0 f.0.0 row.1 other o)
      (λ long. justified (of_parents judged i) terms row.0.clause f.1.0 step long (parents_named i f.1.0 f.1.1) row.2 all)
  consequence (by_stage i j c terms chains chain step has here at) some lits g all = by_stage_true i c chains chain has here j terms step at lits g all
  consequence (by_chain i c terms chains chain step has here at) some lits g all = by_chain_true i c chains chain has here terms step at lits g all
  consequence (by_image i c terms composed step has at) some lits g all =
      let f = has_facts i (Composes composed) has in
      let d = f.1 in
      let row = justified_row (rows_at case i) (composed.image ∷ []) composed.steps d.5.steps c step at in
      ground_true (key i 0 c terms) lits g row.0.clause (λ other o. same_listed i c terms (own_form case i) row.0 f.0.0 row.1 other o)
      (λ long. justified (of_image judged i) terms row.0.clause (composed.image ∷ []) step long
      (image_named i d.0 (full_image (symbol_by (aliens_of case i) d.2) d.1) composed has d.5.image) row.2 all)
  consequence (by_thin i q c terms composed has one leaf) some lits g all = absurd (some refl)
  consequence (by_parent i q base c terms composed has one none b) some lits g all = by_parent_true i q base c terms composed has one none b lits g (all zero (key base 0 c terms) (omega arith))

pub follows_from_needed : FollowsFromNeeded
follows_from_needed trace graph verdicts right one needed needs some lits g atoms all =
    consequence (case_of right.0 trace graph) verdicts.list right.1 right.2 atoms needs some lits g all

-- ---- lists of instances

all_item : {X : Type 0} (P : X → Type 0) (xs : List X) (k : ℕ) (x : X) → All P xs → slice_get xs k ≡ Some x → P x
all_item P xs k x all at = subst P (get_or_from_slice_get xs k x x at) (all k x (slice_get_within xs k x at))

items_all : {X : Type 0} (P : X → Type 0) (xs : List X) → ((k : ℕ) (x : X) → slice_get xs k ≡ Some x → P x) → All P xs
items_all P [] h k d low = absurd (omega (arith, low))
items_all P (x ∷ xs) h zero d low = h zero x refl
items_all P (x ∷ xs) h (suc k) d low = items_all P xs (λ j y at. h (suc j) y at) k d (omega (arith, low))

key_at : (instances : List Instance) (n : ℕ) (one : Key) → slice_get (keys_of instances) n ≡ Some one → (it : Instance) × (slice_get instances n ≡ Some it) × (key_of it ≡ one)
key_at [] n one at = absurd (cc)
key_at (it ∷ rest) zero one at = (it, refl, same_some (Some (key_of it)) (key_of it) one refl at)
key_at (it ∷ rest) (suc n) one at = key_at rest n one at

-- what holds of the instances below a number holds of those with numbers below it
each_needed : (P : Key → Type 0) (instances : List Instance) (n : ℕ) → ((m : ℕ) (it : Instance) → m < n → slice_get instances m ≡ Some it → P (key_of it)) → (needed : List Key) (numbers : List ℕ)
    → AreNumbers (keys_of instances) needed numbers → All (λ m. m < n) numbers → All P needed
each_needed P instances n below [] [] are less k d low = absurd (omega (arith, low))
each_needed P instances n below [] (m ∷ numbers) are less k d low = absurd are
each_needed P instances n below (one ∷ needed) [] are less k d low = absurd are
each_needed P instances n below (one ∷ needed) (m ∷ numbers) are less zero d low = let w = key_at instances m one are.0 in subst P w.2 (below m w.0 (less zero m (omega arith)) w.1)
each_needed P instances n below (one ∷ needed) (m ∷ numbers) are less (suc k) d low =
    each_needed P instances n below needed numbers are.1 (λ j e l. less (suc j) e (omega (arith, l))) k d (omega (arith, low))

module _ (trace : Trace) (graph : Graph) (verdicts : Verdicts) (right : AreRightVerdicts trace graph verdicts) (instances : List Instance)
    (each : All (IsInstance (judged_by trace graph verdicts) (keys_of instances)) instances) (before : HasNeedsBefore instances) (atoms : Atoms)
    (given : All (λ it. it.needs ≡ [] → clause_holds atoms it.lits ≡ true) instances) where
  abbrev Holds : Instance → Type 0
  Holds it = clause_holds atoms it.lits ≡ true

  instance_at : (m : ℕ) (it : Instance) → slice_get instances m ≡ Some it → IsInstance (judged_by trace graph verdicts) (keys_of instances) it
  instance_at m it at = all_item (IsInstance (judged_by trace graph verdicts) (keys_of instances)) instances m it each at

  ground_at : (m : ℕ) (it : Instance) → slice_get instances m ≡ Some it → IsGroundClause (judged_by trace graph verdicts) (key_of it) it.lits
  ground_at m it at = let is = instance_at m it at in record { clause = is.clause; of = is.of; each = is.each; is = is.lits }

  holds_after : (m : ℕ) (it : Instance) → slice_get instances m ≡ Some it → ((j : ℕ) (other : Instance) → j < m → slice_get instances j ≡ Some other → Holds other) → (numbers : List ℕ) → it.needs ≡ numbers → Holds it
  holds_after m it at lower [] none = all_item (λ (x : Instance). x.needs ≡ [] → Holds x) instances m it given at none
  holds_after m it at lower (k ∷ numbers) some =
      let is = instance_at m it at in
      follows_from_needed trace graph verdicts right (key_of it) is.needed is.needs
      (λ none. subst (λ xs. AreNumbers (keys_of instances) [] xs) some (subst (λ xs. AreNumbers (keys_of instances) xs it.needs) none is.numbers))
      it.lits (ground_at m it at) atoms
      (each_needed (IsTrue (judged_by trace graph verdicts) atoms) instances m (λ j other less here. (other.lits, ground_at j other here, lower j other less here)) is.needed it.needs is.numbers (before m it at))

  holds_below : (n m : ℕ) (it : Instance) → m < n → slice_get instances m ≡ Some it → Holds it
  holds_below zero m it less at = absurd (omega (arith, less))
  holds_below (suc n) m it less at = holds_after m it at (λ j other low here. holds_below n j other (omega (arith, less, low)) here) it.needs refl

  all_hold : All Holds instances
  all_hold = items_all Holds instances (λ m it at. holds_below (suc m) m it (omega arith) at)

pub all_follow : AllFollow
all_follow trace graph verdicts right root instances are before atoms given = all_hold trace graph verdicts right instances are.each before atoms given
