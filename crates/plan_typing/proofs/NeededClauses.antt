-- How the ground clause of an instance follows from those of the instances that it needs, literal by literal.
use Rattle.std.proofs.Common.{◌≡◌, ◌<◌, ℕ, zero, suc, false, List, [], ◌∷◌, map, length, Option, Some, None, slice_get, arith, refl, sym, ap, ◌∙◌, subst}
use Rattle.dk_syntax.specs.Lists.{Each, each_cons, each_nil}
use Rattle.dk_syntax.specs.Terms.{instance}
use Rattle.dk_syntax.specs.declared.clause.Clause.{Clause}
use Rattle.dk_syntax.specs.declared.clause.Literal.{Literal}
use Rattle.dk_syntax.specs.declared.term.Term.{Term}
use Rattle.normal_form.specs.ClauseLists.{clause_rows}
use Rattle.normal_form.specs.Existentials.{existential_in}
use Rattle.normal_form.specs.declared.clause_list.ClauseList.{ClauseList}
use Rattle.normal_form.specs.declared.clause_list.ClauseRow.{ClauseRow}
use Rattle.normal_form.specs.declared.form.Nf.{Nf}
use Rattle.step_chain.specs.Chains.{alone}
use Rattle.step_chain.specs.declared.chain.Chain.{Chain}
use Rattle.step_check.proofs.OneRepresentative.{one_representative}
use Rattle.step_check.specs.Representatives.{Represents}
use Rattle.step_check.specs.Steps.{aliens_of, Case, own_form, parents_of}
use Rattle.step_check.specs.Verdicts.{AreLists, IsListAt}
use Rattle.step_check.specs.declared.verdict.Verdict.{Verdict}
use Rattle.step_check.specs.declared.verdict.Verdict.TheVariants.{Chained, Clausal, Composes, Structural}
use Rattle.step_clause.specs.Justifications.{IsNumbered}
use Rattle.step_clause.specs.declared.justification.Justification.{Justification}
use Rattle.step_compose.proofs.FullImages.{full_is_image}
use Rattle.step_compose.specs.Composing.{symbol_by}
use Rattle.step_compose.specs.FullImages.{full_image, full_map}
use Rattle.step_compose.specs.declared.composed.Composed.{Composed}
use Rattle.step_skolem.proofs.Unchanged.{unchanged_without_existentials}
use Rattle.ground_instances.proofs.OneVisit.{one_has, same_item, same_some}
use Rattle.ground_instances.proofs.StandsLaws.{good, images, stands_represents, verdict_at}
use Rattle.ground_instances.specs.Keys.{Has, image, imaged, IsBase, IsClauseOf, IsLeafBase, IsOwnBase, itself, Judged, Key, key, listed, middle, parent_at, parents_at, Stands, through, verdict_in}
use Rattle.ground_instances.specs.Laws.{IsGroundClause}
use Rattle.ground_instances.specs.Needs.{by_base, by_chain, by_clauses, by_image, by_leaf, by_parent, by_stage, by_thin, named_by, Needs, of_image, of_parents, of_stage, stage_before, value_in}
use Rattle.plan.specs.Laws.{AreRightSteps, judged_of}
use Rattle.plan_typing.proofs.ChainLinks.{end_at, IsBefore, IsEndAt, link_at, middle_count}
use Rattle.plan_typing.proofs.Picked.{AreNamed, Explained, IsNamed, justified, resolvent}
use Rattle.plan_typing.proofs.VerdictFacts.{chained_row, Facts, facts, justified_row, list_at, plain_own, row_numbered_in, rows_at}
use Rattle.plan_typing.specs.Reasons.{justification_at, justification_from}

-- the clause is that of the one parent, or follows by the justification
abbrev pub FollowsBy : Option Justification → List Literal → List (List Literal) → Type 0
FollowsBy None lits parents = parents ≡ lits ∷ []
FollowsBy (Some step) lits parents = Explained lits step parents

module _ (case : Case) (verdicts : List Verdict) (right : AreRightSteps case verdicts) where
  abbrev judged : Judged
  judged = judged_of case verdicts

  abbrev Is : Key → List Literal → Type 0
  Is one lits = IsGroundClause judged one lits

  -- the clause follows from those of the needed instances as the verdict on the step tells
  abbrev pub FollowsAt : Key → List Literal → List (List Literal) → Type 0
  FollowsAt one lits parents = FollowsBy (justification_from (verdict_in verdicts one.step) one.stage one.clause) lits parents

  has_facts : (i : ℕ) (v : Verdict) → Has judged i v → Facts case i v
  has_facts i v h = facts case (verdict_at case verdicts right.are right.right i v h)

  represented : {i : ℕ} {r : Nf} → Stands judged i r → Represents case i r
  represented s = stands_represents case verdicts right.are right.right s

  -- what stands at the verdict stands at the step
  at_verdict : (one : Key) (v : Verdict) (lits : List Literal) (parents : List (List Literal)) → Has judged one.step v
      → FollowsBy (justification_from (Some v) one.stage one.clause) lits parents → FollowsAt one lits parents
  at_verdict one v lits parents has f = subst (λ x. FollowsBy (justification_from x one.stage one.clause) lits parents) (sym has) f

  by_step : (o : Option Justification) (step : Justification) (lits : List Literal) (parents : List (List Literal)) → o ≡ Some step → Explained lits step parents → FollowsBy o lits parents
  by_step o step lits parents e f = subst (λ x. FollowsBy x lits parents) (sym e) f

  -- ---- which clause an instance is of

  abbrev IsOnly : Key → Clause → Type 0
  IsOnly one clause = (other : Clause) → IsClauseOf judged one other → other ≡ clause

  ground_is : (one : Key) (clause : Clause) → IsOnly one clause → (m : List Literal) → Is one m → m ≡ map (instance (value_in one.terms)) clause.lits
  ground_is one clause same m g = g.is ∙ ap (λ (c : Clause). map (instance (value_in one.terms)) c.lits) (same g.clause g.of)

  ground_long : (one : Key) (clause : Clause) → IsOnly one clause → (m : List Literal) → Is one m → length one.terms ≡ clause.vars
  ground_long one clause same m g = g.each ∙ ap (λ (c : Clause). c.vars) (same g.clause g.of)

  listed_clause : (q c : ℕ) (ts : List Term) {other : Clause} → IsClauseOf judged (key q 0 c ts) other
      → (r : Nf) × (row : ClauseRow) × Stands judged q r × (slice_get (clause_rows r) c ≡ Some row) × (row.clause ≡ other)
  listed_clause q c ts (listed _ _ _ r row stands at) = (r, row, stands, at, refl)

  same_listed : (q c : ℕ) (ts : List Term) (r : Nf) (row : ClauseRow) → Represents case q r → slice_get (clause_rows r) c ≡ Some row → IsOnly (key q 0 c ts) row.clause
  same_listed q c ts r row rep at other o =
      let w = listed_clause q c ts o in
      let same : r ≡ w.0 = one_representative case rep w.0 (represented w.2) in
      sym w.4 ∙ ap (λ (x : ClauseRow). x.clause) (same_some (slice_get (clause_rows w.0) c) w.1 row w.3 (subst (λ x. slice_get (clause_rows x) c ≡ Some row) same at))

  same_in_list : (q c : ℕ) (ts : List Term) (list : ClauseList) (row : ClauseRow) → IsListAt case q list → slice_get list.rows c ≡ Some row → IsOnly (key q 0 c ts) row.clause
  same_in_list q c ts list row is at other o = same_listed q c ts is.0 row is.1 (subst (λ x. slice_get x c ≡ Some row) is.2 at) other o

  staged : (i j c : ℕ) (ts : List Term) (chains : List Chain) (chain : Chain) → Has judged i (Chained chains) → slice_get chains c ≡ Some chain
      → {other : Clause} → IsClauseOf judged (key i (suc j) c ts) other → slice_get chain.mids j ≡ Some other
  staged i j c ts chains chain has here (middle _ _ _ _ chains' chain' clause' has' here' at') =
      let e = one_has judged i (Chained chains') (Chained chains) has' has in
      let l : chains' ≡ chains = cc in
      let d : chain' ≡ chain = same_some (slice_get chains c) chain' chain (subst (λ x. slice_get x c ≡ Some chain') l here') here in
      subst (λ (x : Chain). slice_get x.mids j ≡ Some clause') d at'
  staged i _ c ts chains chain has here (imaged _ _ _ composed row has' at') = let e = one_has judged i (Composes composed) (Chained chains) has' has in cc

  image_row : (i c : ℕ) (ts : List Term) (composed : Composed) → Has judged i (Composes composed) → {other : Clause} → IsClauseOf judged (key i 1 c ts) other
      → (row : ClauseRow) × (slice_get composed.image.rows c ≡ Some row) × (row.clause ≡ other)
  image_row i c ts composed has (middle _ _ _ _ chains chain clause has' here at) = absurd (let e = one_has judged i (Chained chains) (Composes composed) has' has in cc)
  image_row i c ts composed has (imaged _ _ _ composed' row has' at) =
      let e = one_has judged i (Composes composed') (Composes composed) has' has in
      let l : composed' ≡ composed = cc in
      (row, subst (λ (x : Composed). slice_get x.image.rows c ≡ Some row) l at, refl)

  same_image : (i c : ℕ) (ts : List Term) (composed : Composed) (row : ClauseRow) → Has judged i (Composes composed) → slice_get composed.image.rows c ≡ Some row → IsOnly (key i 1 c ts) row.clause
  same_image i c ts composed row has at other o =
      let w = image_row i c ts composed has o in sym w.2 ∙ ap (λ (x : ClauseRow). x.clause) (same_some (slice_get composed.image.rows c) w.0 row w.1 at)

  -- the target's own literals
  explained_own : (one : Key) (lits : List Literal) → Is one lits → (clause : Clause) → IsOnly one clause → (step : Justification) (parents : List (List Literal))
      → (length one.terms ≡ clause.vars → Explained (map (instance (value_in one.terms)) clause.lits) step parents) → Explained lits step parents
  explained_own one lits g clause same step parents f =
      subst (λ x. Explained x step parents) (sym (ground_is one clause same lits g)) (f (ground_long one clause same lits g))

  -- ---- the lists of a step's parents

  row_numbered : (q : ℕ) (list : ClauseList) (c : ℕ) (row : ClauseRow) → IsListAt case q list → slice_get list.rows c ≡ Some row → IsNumbered row.clause
  row_numbered q list c row is at = row_numbered_in list.rows is.0 is.2 c row at

  parents_named : (i : ℕ) (lists : List ClauseList) → AreLists case (parents_of case i) lists → AreNamed Is (of_parents judged i) lists
  parents_named i lists at k c clause (list, row, here, there, e) =
      let is = list_at case (parents_of case i) lists k list at here in (
        subst IsNumbered e (row_numbered (parent_at judged i k) list c row is there),
        λ ts. ground_is (key (parent_at judged i k) 0 c ts) clause (λ other o. same_in_list (parent_at judged i k) c ts list row is there other o ∙ e),
      )

  image_named : (i : ℕ) (r : Nf) (composed : Composed) → Has judged i (Composes composed) → composed.image.rows ≡ clause_rows r → AreNamed Is (of_image judged i) (composed.image ∷ [])
  image_named i r composed has rows zero c clause (list, row, here, there, e) =
      let l : composed.image ≡ list = same_some (Some composed.image) composed.image list refl here in
      let there' : slice_get composed.image.rows c ≡ Some row = subst (λ (x : ClauseList). slice_get x.rows c ≡ Some row) (sym l) there in (
        subst IsNumbered e (row_numbered_in composed.image.rows r rows c row there'),
        λ ts. ground_is (key i 1 c ts) clause (λ other o. same_image i c ts composed row has there' other o ∙ e),
      )
  image_named i r composed has rows (suc k) c clause (list, row, here, there, e) = absurd (cc)

  -- ---- bases

  base_own : {i base : ℕ} → IsBase judged i base → (v : Verdict) × Has judged base v × IsOwnBase v
  base_own (itself i v h own) = (v, h, own)
  base_own (through i q base m h one b) = base_own b

  base_plain : (i base : ℕ) (r : Nf) → IsBase judged i base → (IsLeafBase judged i → ⊥) → Stands judged base r → existential_in r ≡ false
  base_plain i base r b none stands =
      let w = base_own b in
      let plain = plain_own case base w.0 (has_facts base w.0 w.1) w.2 (λ leaf. none (base, w.0, b, w.1, leaf)) (good case verdicts right.are right.right base w.0 w.1) in
      ap existential_in (one_representative case (represented stands) (own_form case base) plain.0) ∙ plain.1

  -- a form without existentials that represents the base represents the step
  base_stands : {i base : ℕ} → IsBase judged i base → (r : Nf) → existential_in r ≡ false → Stands judged base r → Stands judged i r
  base_stands (itself i v h own) r plain stands = stands
  base_stands (through i q base m h one b) r plain stands =
      let up = base_stands b r plain stands in
      let w = images case verdicts right.are right.right i q r m h one up in
      let same : w.0 ≡ r = (unchanged_without_existentials r w.0 m.entries plain w.1).1 in
      subst (Stands judged i) same (image i q r w.0 m h one up w.1)

  base_is : (base c : ℕ) (terms : List Term) (row : ClauseRow) (r : Nf) → Represents case base r → slice_get (clause_rows r) c ≡ Some row → (m : List Literal) → Is (key base 0 c terms) m
      → m ≡ map (instance (value_in terms)) row.clause.lits
  base_is base c terms row r rep at m g = ground_is (key base 0 c terms) row.clause (same_listed base c terms r row rep at) m g

  base_form : (base c : ℕ) (terms : List Term) (m : List Literal) → Is (key base 0 c terms) m → (r : Nf) × Stands judged base r
  base_form base c terms m g = let w = listed_clause base c terms g.of in (w.0, w.2)

  at_base : (i base c : ℕ) (terms : List Term) → (IsLeafBase judged i → ⊥) → IsBase judged i base → (lits m : List Literal) → Is (key i 0 c terms) lits → Is (key base 0 c terms) m → m ≡ lits
  at_base i base c terms none b lits m g h =
      let f = base_form base c terms m h in
      let up = base_stands b f.0 (base_plain i base f.0 b none f.1) f.1 in
      let w = listed_clause i c terms g.of in
      let same : w.0 ≡ f.0 = one_representative case (represented w.2) f.0 (represented up) in
      base_is base c terms w.1 f.0 (represented f.1) (subst (λ x. slice_get (clause_rows x) c ≡ Some w.1) same w.3) m h
      ∙ sym (ground_is (key i 0 c terms) w.1.clause (same_listed i c terms w.0 w.1 (represented w.2) w.3) lits g)

  at_parent : (i q base c : ℕ) (terms : List Term) (composed : Composed) → Has judged i (Composes composed) → parents_at judged i ≡ q ∷ [] → (IsLeafBase judged q → ⊥) → IsBase judged q base
      → (lits m : List Literal) → Is (key i 1 c terms) lits → Is (key base 0 c terms) m → m ≡ lits
  at_parent i q base c terms composed has one none b lits m g h =
      let f = base_form base c terms m h in
      let plain = base_plain q base f.0 b none f.1 in
      let up = base_stands b f.0 plain f.1 in
      let d = (has_facts i (Composes composed) has).1 in
      let at_q : d.0 ≡ q = same_item (parents_at judged i) d.0 q d.3 one in
      let same : d.1 ≡ f.0 = one_representative case d.4 f.0 (subst (λ x. Represents case x f.0) (sym at_q) (represented up)) in
      let symbols = symbol_by (aliens_of case i) d.2 in
      let unchanged = (unchanged_without_existentials d.1 (full_image symbols d.1) (full_map symbols d.1) (ap existential_in same ∙ plain) (full_is_image symbols d.1)).1 in
      let rows : composed.image.rows ≡ clause_rows f.0 = d.5.image ∙ ap clause_rows (unchanged ∙ same) in
      let w = image_row i c terms composed has g.of in
      base_is base c terms w.0 f.0 (represented f.1) (subst (λ x. slice_get x c ≡ Some w.0) rows w.1) m h
      ∙ sym (ground_is (key i 1 c terms) w.0.clause (same_image i c terms composed w.0 has w.1) lits g)

  -- ---- chains

  module _ (i c : ℕ) (chains : List Chain) (chain : Chain) (has : Has judged i (Chained chains)) (here : slice_get chains c ≡ Some chain) where
    before_named : (first : ClauseList) (start : ℕ) (row : ClauseRow) → IsListAt case (parent_at judged i 0) first → slice_get first.rows start ≡ Some row → (j n : ℕ) (before : Clause)
        → IsBefore start row.clause chain.mids j n before → IsNamed Is (stage_before judged i c j n) before
    before_named first start row is at zero n before (e, s) ts m h =
        ground_is (key (parent_at judged i 0) 0 n ts) before
        (λ other o. same_in_list (parent_at judged i 0) n ts first row is (subst (λ k. slice_get first.rows k ≡ Some row) (sym e) at) other o ∙ sym s) m h
    before_named first start row is at (suc k) n before (e, s) ts m h =
        ground_is (key i (suc k) c ts) before (λ other o. same_some (slice_get chain.mids k) other before (staged i k c ts chains chain has here o) s) m h

    after_named : (j m : ℕ) (list : ClauseList) (row : ClauseRow) → IsListAt case (parent_at judged i (suc j)) list → slice_get list.rows m ≡ Some row
        → IsNamed Is (of_stage judged i c j 1 m) row.clause
    after_named j m list row is at ts lits h =
        ground_is (key (parent_at judged i (suc j)) 0 m ts) row.clause (λ other o. same_in_list (parent_at judged i (suc j)) m ts list row is at other o) lits h

    end_named : (k : ℕ) (before : Clause) (last : ClauseList) → slice_get chain.mids k ≡ Some before → IsNumbered before → IsListAt case (parent_at judged i (suc (suc k))) last
        → AreNamed Is (of_stage judged i c (suc k)) (alone before ∷ last ∷ [])
    end_named k before last stands numbered in_last zero n clause (list, one, there, row_at, e) =
        let l : alone before ≡ list = same_some (Some (alone before)) (alone before) list refl there in
        let same = alone_row before n one (subst (λ (x : ClauseList). slice_get x.rows n ≡ Some one) (sym l) row_at) ∙ e in (
          subst IsNumbered same numbered,
          λ ts m h. ground_is (key i (suc k) c ts) clause (λ other o. same_some (slice_get chain.mids k) other before (staged i k c ts chains chain has here o) stands ∙ same) m h,
        )
      where
        alone_row : (it : Clause) (place : ℕ) (row : ClauseRow) → slice_get (alone it).rows place ≡ Some row → it ≡ row.clause
        alone_row it zero row h = ap (λ (x : ClauseRow). x.clause) (same_some (slice_get (alone it).rows 0) (record { clause = it; quants = []; picks = [] }) row refl h)
        alone_row it (suc place) row h = absurd (cc)
    end_named k before last stands numbered in_last (suc zero) n clause (list, one, there, row_at, e) =
        let l : last ≡ list = same_some (Some last) last list refl there in
        let at' : slice_get last.rows n ≡ Some one = subst (λ (x : ClauseList). slice_get x.rows n ≡ Some one) (sym l) row_at in (
          subst IsNumbered e (row_numbered (parent_at judged i (suc (suc k))) last n one in_last at'),
          λ ts m h. after_named (suc k) n last one in_last at' ts m h ∙ ap (λ (x : Clause). map (instance (value_in ts)) x.lits) e,
        )
    end_named k before last stands numbered in_last (suc (suc m)) n clause (list, one, there, row_at, e) = absurd (cc)

    at_stage : (j : ℕ) (terms : List Term) (step : Justification) → slice_get chain.steps j ≡ Some step → (lits : List Literal) → Is (key i (suc j) c terms) lits
        → (parents : List (List Literal)) → Each Is (named_by (of_stage judged i c j) terms step) parents → Explained lits step parents
    at_stage j terms step at lits g parents all =
        let f = (has_facts i (Chained chains) has).1 in
        let row = chained_row (rows_at case i) f.0 chains f.3 c chain here in
        let w = row.2.1 in
        let start = row.2.0.start in
        let known = subst (AreLists case (parents_of case i)) w.whole f.1 in
        let is = list_at case (parents_of case i) (w.first ∷ w.rest) 0 w.first known refl in
        let mid = staged i j c terms chains chain has here g.of in
        let l = link_at row.0.clause w.continues (row_numbered (parent_at judged i 0) w.first start w.row is w.at) j g.clause step mid at in
        let after = list_at case (parents_of case i) (w.first ∷ w.rest) (suc j) l.list known l.here in
        subst (λ x. Explained x step parents) (sym g.is)
        (resolvent Is (of_stage judged i c j) terms l.n l.before l.row.clause l.link g.clause step parents g.each l.numbered
        (row_numbered (parent_at judged i (suc j)) l.list l.link.number l.row after l.at)
        (before_named w.first start w.row is w.at j l.n l.before l.stands) (after_named j l.link.number l.list l.row after l.at) l.made all)

    at_target : (terms : List Term) (step : Justification) → slice_get chain.steps (length chain.mids) ≡ Some step → (lits : List Literal) → Is (key i 0 c terms) lits
        → (parents : List (List Literal)) → Each Is (named_by (of_stage judged i c (length chain.mids)) terms step) parents → Explained lits step parents
    at_target terms step at lits g parents all =
        let f = has_facts i (Chained chains) has in
        let row = chained_row (rows_at case i) f.1.0 chains f.1.3 c chain here in
        let w = row.2.1 in
        let start = row.2.0.start in
        let known = subst (AreLists case (parents_of case i)) w.whole f.1.1 in
        let is = list_at case (parents_of case i) (w.first ∷ w.rest) 0 w.first known refl in
        let l = end_at row.0.clause w.continues (row_numbered (parent_at judged i 0) w.first start w.row is w.at) step at in
        let count = middle_count row.0.clause w.continues in
        let size = ap length w.whole in
        let many = f.1.2 in
        explained_own (key i 0 c terms) lits g row.0.clause (same_listed i c terms (own_form case i) row.0 f.0.0 row.1) step parents
        (λ long. by_length w.first start w.row w.rest known row.0.clause long (length chain.mids) (omega (arith, count, size, many)) l all)
      where
        by_length : (first : ClauseList) (start : ℕ) (one : ClauseRow) (rest : List ClauseList) → AreLists case (parents_of case i) (first ∷ rest) → (clause : Clause)
            → length terms ≡ clause.vars → (m : ℕ) → 0 < m → IsEndAt clause start one.clause chain.mids rest m step
            → Each Is (named_by (of_stage judged i c m) terms step) parents → Explained (map (instance (value_in terms)) clause.lits) step parents
        by_length first start one rest known clause long zero less l every = absurd (omega (arith, less))
        by_length first start one rest known clause long (suc k) less l every =
            let in_last = list_at case (parents_of case i) (first ∷ rest) (suc (suc k)) l.last known l.here in
            justified Is (of_stage judged i c (suc k)) terms clause (alone l.before ∷ l.last ∷ []) step parents long (end_named k l.before l.last l.stands.1 l.numbered in_last) l.justified every

  -- ---- each case

  one_alike : (one : Key) (lits : List Literal) → ((m : List Literal) → Is one m → m ≡ lits) → (parents : List (List Literal)) → Each Is (one ∷ []) parents → parents ≡ lits ∷ []
  one_alike one lits same _ (each_cons {b = m} h each_nil) = ap (λ x. x ∷ []) (same m h)

  pub follows_at : {one : Key} {needed : List Key} → Needs judged one needed → (needed ≡ [] → ⊥) → (lits : List Literal) → IsGroundClause judged one lits
      → (parents : List (List Literal)) → Each (IsGroundClause judged) needed parents → FollowsAt one lits parents
  follows_at (by_leaf i c terms leaf) some lits g parents all = absurd (some refl)
  follows_at (by_base i base c terms m has none b) some lits g parents all =
      at_verdict (key i 0 c terms) (Structural m) lits parents has (one_alike (key base 0 c terms) lits (λ x h. at_base i base c terms none b lits x g h) parents all)
  follows_at (by_clauses i c terms steps step has at) some lits g parents all =
      let f = has_facts i (Clausal steps) has in
      let row = justified_row (rows_at case i) f.1.0 steps f.1.2 c step at in
      at_verdict (key i 0 c terms) (Clausal steps) lits parents has
      (by_step (slice_get steps c) step lits parents at
      (explained_own (key i 0 c terms) lits g row.0.clause (same_listed i c terms (own_form case i) row.0 f.0.0 row.1) step parents
      (λ long. justified Is (of_parents judged i) terms row.0.clause f.1.0 step parents long (parents_named i f.1.0 f.1.1) row.2 all)))
  follows_at (by_stage i j c terms chains chain step has here at) some lits g parents all =
      at_verdict (key i (suc j) c terms) (Chained chains) lits parents has
      (by_step (justification_from (Some (Chained chains)) (suc j) c) step lits parents (ap (λ o. justification_at o (suc j)) here ∙ at)
      (at_stage i c chains chain has here j terms step at lits g parents all))
  follows_at (by_chain i c terms chains chain step has here at) some lits g parents all =
      at_verdict (key i 0 c terms) (Chained chains) lits parents has
      (by_step (justification_from (Some (Chained chains)) 0 c) step lits parents (ap (λ o. justification_at o 0) here ∙ at)
      (at_target i c chains chain has here terms step at lits g parents all))
  follows_at (by_image i c terms composed step has at) some lits g parents all =
      let f = has_facts i (Composes composed) has in
      let d = f.1 in
      let row = justified_row (rows_at case i) (composed.image ∷ []) composed.steps d.5.steps c step at in
      at_verdict (key i 0 c terms) (Composes composed) lits parents has
      (by_step (slice_get composed.steps c) step lits parents at
      (explained_own (key i 0 c terms) lits g row.0.clause (same_listed i c terms (own_form case i) row.0 f.0.0 row.1) step parents
      (λ long. justified Is (of_image judged i) terms row.0.clause (composed.image ∷ []) step parents long
      (image_named i (full_image (symbol_by (aliens_of case i) d.2) d.1) composed has d.5.image) row.2 all)))
  follows_at (by_thin i q c terms composed has one leaf) some lits g parents all = absurd (some refl)
  follows_at (by_parent i q base c terms composed has one none b) some lits g parents all =
      at_verdict (key i 1 c terms) (Composes composed) lits parents has
      (one_alike (key base 0 c terms) lits (λ x h. at_parent i q base c terms composed has one none b lits x g h) parents all)
