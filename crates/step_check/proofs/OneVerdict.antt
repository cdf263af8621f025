-- A step has one verdict at most, and so there is one verdict list at most.
use Rattle.std.proofs.Common.{◌≡◌, ◌<◌, ◌≤◌, ℕ, zero, suc, Bool, true, false, List, [], ◌∷◌, Option, Some, None, slice_get, length, refl, sym, ap, ap₂, ◌∙◌, subst, arith, ◌⊎◌, inl, inr}
use Rattle.std.proofs.lemmas.Bool.{cases_order}
use Rattle.dk_syntax.specs.declared.Clause.{Clause}
use Rattle.dk_syntax.specs.declared.Named.{Named}
use Rattle.dk_syntax.specs.declared.SymKey.{SymKey}
use Rattle.normal_form.specs.ClauseLists.{clause_rows}
use Rattle.normal_form.specs.declared.clause_list.ClauseList.{ClauseList}
use Rattle.normal_form.specs.declared.clause_list.ClauseRow.{ClauseRow}
use Rattle.normal_form.specs.declared.form.Nf.{Nf}
use Rattle.step_chain.proofs.OneLeastChain.{one_chain_answer}
use Rattle.step_chain.specs.Chains.{HasNoChain, IsLeastChain}
use Rattle.step_chain.specs.declared.chain.Chain.{Chain}
use Rattle.step_check.proofs.NumberedRows.{list_numbered}
use Rattle.step_check.proofs.OneRepresentative.{derived_one, not_both, one_representative, parent_one, same_some, some_or_none}
use Rattle.step_check.proofs.OwnForms.{one_map}
use Rattle.step_check.specs.Freshness.{AreFirstVerdicts, AreVerdicts, freshened}
use Rattle.step_check.specs.Limits.{full_limit, limit_at}
use Rattle.step_check.specs.Representatives.{HasNoShape, HasOneParent, IsDerived, IsFit, IsSame, IsSkolem, MayCompose, Represents}
use Rattle.step_check.specs.Steps.{aliens_of, Case, has_conjecture_parent, has_existential, item_named, names_conjecture, own_form, parents_of, step_in}
use Rattle.step_check.specs.Verdicts.{AreChained, AreLists, Follows, FollowsNot, HasVerdict, IsClausalVerdict, IsFirstUnjustified, IsFlaggedVerdict, IsInferenceVerdict, IsLeafVerdict, IsOtherVerdict, IsPlainVerdict, map_of}
use Rattle.step_check.specs.Verdicts as is
use Rattle.step_check.specs.declared.verdict.Limit.{Limit}
use Rattle.step_check.specs.declared.verdict.Reason.TheVariants.{AlienSymbol, NotImage, Unjustified}
use Rattle.step_check.specs.declared.verdict.Verdict.{Verdict}
use Rattle.step_check.specs.declared.verdict.Verdict.TheVariants.{Chained, Clausal, Composes as ComposesBy, Over, Structural, Wrong}
use Rattle.step_clause.proofs.Uniqueness.{one_justification}
use Rattle.step_clause.specs.Justifications.{AreNumbered, IsJustification}
use Rattle.step_clause.specs.declared.justification.Justification.{Justification}
use Rattle.step_compose.proofs.OneComposed.{composed_is_one, one_justified}
use Rattle.step_compose.specs.Composing.{AreJustified, IsLeastComposed, NoneComposes}
use Rattle.step_compose.specs.declared.composed.Composed.{Composed}
use Rattle.step_skolem.specs.Carrying.{carried}
use Rattle.step_skolem.specs.Images.{IsImage}
use Rattle.step_skolem.specs.declared.map.SkEntry.{SkEntry}
use Rattle.tstp_trace.specs.declared.step.Step.{Step}
use Rattle.tstp_trace.specs.declared.step.StepSource.TheVariants.{Leaf}

-- ---- lists

same_items : {X : Type 0} (xs ys : List X) → length xs ≡ length ys → ((k : ℕ) (x y : X) → slice_get xs k ≡ Some x → slice_get ys k ≡ Some y → x ≡ y) → xs ≡ ys
same_items [] [] e f = refl
same_items [] (y ∷ ys) e f = absurd (omega arith)
same_items (x ∷ xs) [] e f = absurd (omega arith)
same_items (x ∷ xs) (y ∷ ys) e f = ap₂ (λ a b. a ∷ b) (f 0 x y refl refl) (same_items xs ys (omega arith) (λ k. f (suc k)))

none_first : (l : List SymKey) (a : SymKey) → slice_get l 0 ≡ Some a → l ≡ [] → ⊥
none_first l a h k = cc

true_or_false : (b : Bool) → b ≡ true → b ≡ false → ⊥
true_or_false b h k = cc

same_name : (a b : List ℕ) → Leaf a ≡ Leaf b → a ≡ b
same_name a b h = cc

abbrev list_of : List ClauseRow → ClauseList
list_of rows = record { rows = rows }

-- ---- justified clauses

one_step : (row : ClauseRow) (lists : List ClauseList) (s t : Justification) → IsJustification row.clause lists (Some s) → IsJustification row.clause lists (Some t) → s ≡ t
one_step row lists s t h k = same_some (Some s) s t refl (one_justification row.clause lists (Some s) (Some t) h k)

pub justified_at : (rows : List ClauseRow) (lists : List ClauseList) (ss : List Justification) → AreJustified rows lists ss → (k : ℕ) (row : ClauseRow) → slice_get rows k ≡ Some row
    → (s : Justification) × IsJustification row.clause lists (Some s)
justified_at [] lists ss h k row e = cc
justified_at (first ∷ rows) lists [] h k row e = absurd h
justified_at (first ∷ rows) lists (s ∷ ss) h zero row e = (s, subst (λ x. IsJustification x.clause lists (Some s)) (same_some (Some first) first row refl e) h.0)
justified_at (first ∷ rows) lists (s ∷ ss) h (suc k) row e = justified_at rows lists ss h.1 k row e

pub chained_at : (rows : List ClauseRow) (lists : List ClauseList) (cs : List Chain) → AreChained rows lists cs → (k : ℕ) (row : ClauseRow) → slice_get rows k ≡ Some row
    → (c : Chain) × IsLeastChain row.clause lists c
chained_at [] lists cs h k row e = cc
chained_at (first ∷ rows) lists [] h k row e = absurd h
chained_at (first ∷ rows) lists (c ∷ cs) h zero row e = (c, subst (λ x. IsLeastChain x.clause lists c) (same_some (Some first) first row refl e) h.0)
chained_at (first ∷ rows) lists (c ∷ cs) h (suc k) row e = chained_at rows lists cs h.1 k row e

justified_not : (row : ClauseRow) (lists : List ClauseList) (s : Justification) → IsJustification row.clause lists (Some s) → IsJustification row.clause lists None → ⊥
justified_not row lists s h k = some_or_none (Some s) s refl (one_justification row.clause lists (Some s) None h k)

chained_not : (row : ClauseRow) (lists : List ClauseList) (c : Chain) → IsLeastChain row.clause lists c → HasNoChain row.clause lists → ⊥
chained_not row lists c h k = k h.0 c h.1

follows_not : (lists : List ClauseList) (row : ClauseRow) → Follows lists row → FollowsNot lists row → ⊥
follows_not lists row (inl h) (inl k) = justified_not row lists h.1.0 h.1.1 k.1
follows_not lists row (inl h) (inr k) = omega (arith, h.0, k.0)
follows_not lists row (inr h) (inl k) = omega (arith, h.0, k.0)
follows_not lists row (inr h) (inr k) = chained_not row lists h.1.0 h.1.1 k.1

module _ (lists : List ClauseList) (chains_one : (target : Clause) (one other : Chain) → IsLeastChain target lists one → IsLeastChain target lists other → one ≡ other) where
  one_chained : (rows : List ClauseRow) (cs ds : List Chain) → AreChained rows lists cs → AreChained rows lists ds → cs ≡ ds
  one_chained [] [] [] h k = refl
  one_chained [] [] (d ∷ ds) h k = absurd k
  one_chained [] (c ∷ cs) ds h k = absurd h
  one_chained (row ∷ rows) [] ds h k = absurd h
  one_chained (row ∷ rows) (c ∷ cs) [] h k = absurd k
  one_chained (row ∷ rows) (c ∷ cs) (d ∷ ds) h k = ap₂ (λ a b. a ∷ b) (chains_one row.clause c d h.0 k.0) (one_chained rows cs ds h.1 k.1)

  one_clausal : (rows : List ClauseRow) {v w : Verdict} → IsClausalVerdict lists rows v → IsClausalVerdict lists rows w → v ≡ w
  one_clausal rows (is.clausal ss n h) (is.clausal ts m k) = ap Clausal (one_justified rows lists ss ts h k)
  one_clausal rows (is.clausal ss n h) (is.chained cs m k) = absurd (omega (arith, n, m))
  one_clausal rows (is.clausal ss n h) (is.unjustified j f) = let s = justified_at rows lists ss h j f.row f.stands in absurd (follows_not lists f.row (inl (n, s)) f.fails)
  one_clausal rows (is.chained cs n h) (is.clausal ts m k) = absurd (omega (arith, n, m))
  one_clausal rows (is.chained cs n h) (is.chained ds m k) = ap Chained (one_chained rows cs ds h k)
  one_clausal rows (is.chained cs n h) (is.unjustified j f) = let s = chained_at rows lists cs h j f.row f.stands in absurd (follows_not lists f.row (inr (n, s)) f.fails)
  one_clausal rows (is.unjustified j f) (is.clausal ts m k) = let s = justified_at rows lists ts k j f.row f.stands in absurd (follows_not lists f.row (inl (m, s)) f.fails)
  one_clausal rows (is.unjustified j f) (is.chained ds m k) = let s = chained_at rows lists ds k j f.row f.stands in absurd (follows_not lists f.row (inr (m, s)) f.fails)
  one_clausal rows (is.unjustified j f) (is.unjustified i g) = elim (cases_order j i) [
    | inl same ↦ ap (λ x. Wrong (Unjustified x)) same
    | inr other ↦ elim other [
      | inl less ↦ absurd (follows_not lists f.row (g.earlier j f.row less f.stands) f.fails)
      | inr more ↦ absurd (follows_not lists g.row (f.earlier i g.row more g.stands) g.fails)
    ]
  ]

-- ---- lists of parents

pub lists_numbered : (case : Case) (parents : List ℕ) (lists : List ClauseList) → AreLists case parents lists → AreNumbered lists
lists_numbered case [] [] h k d less = absurd (omega arith)
lists_numbered case [] (l ∷ ls) h k d less = absurd h
lists_numbered case (q ∷ parents) [] h k d less = absurd h
lists_numbered case (q ∷ parents) (l ∷ ls) h zero d less = list_numbered l h.0.0 h.0.2
lists_numbered case (q ∷ parents) (l ∷ ls) h (suc k) d less = lists_numbered case parents ls h.1 k d (omega arith)

chains_one : (lists : List ClauseList) → AreNumbered lists → (target : Clause) (one other : Chain) → IsLeastChain target lists one → IsLeastChain target lists other → one ≡ other
chains_one lists n target one other h k = same_some (Some one) one other refl (one_chain_answer target lists n (Some one) (Some other) h k)

-- ---- composed images

one_least_composed : (n : Nf) (aliens : List SymKey) (targets : List ClauseRow) (c d : Composed) → IsLeastComposed n aliens targets c → IsLeastComposed n aliens targets d → c ≡ d
one_least_composed n aliens targets c d h k = same_some (Some c) c d refl (composed_is_one n aliens targets (Some c) (Some d) h k)

-- ---- the cases

module _ (case : Case) where
  one_list : (parents : List ℕ) (ls ms : List ClauseList) → AreLists case parents ls → AreLists case parents ms → ls ≡ ms
  one_list [] [] [] h k = refl
  one_list [] [] (m ∷ ms) h k = absurd k
  one_list [] (l ∷ ls) ms h k = absurd h
  one_list (q ∷ parents) [] ms h k = absurd h
  one_list (q ∷ parents) (l ∷ ls) [] h k = absurd k
  one_list (q ∷ parents) (l ∷ ls) (m ∷ ms) h k =
      let rows : l.rows ≡ m.rows = h.0.2 ∙ ap clause_rows (one_representative case h.0.1 k.0.0 k.0.1) ∙ sym k.0.2 in
      ap₂ (λ a b. a ∷ b) (ap list_of rows) (one_list parents ls ms h.1 k.1)

  one_leaf : (step : Step) (name : List ℕ) {v w : Verdict} → IsLeafVerdict case step name v → IsLeafVerdict case step name w → v ≡ w
  one_leaf step name (is.unknown h) (is.unknown k) = refl
  one_leaf step name (is.unknown h) (is.altered item at k) = absurd (some_or_none (item_named case.problem name) item at h)
  one_leaf step name (is.unknown h) (is.conjecture item at k l) = absurd (some_or_none (item_named case.problem name) item at h)
  one_leaf step name (is.unknown h) (is.leaf item at k l) = absurd (some_or_none (item_named case.problem name) item at h)
  one_leaf step name (is.altered item at h) (is.unknown k) = absurd (some_or_none (item_named case.problem name) item at k)
  one_leaf step name (is.altered item at h) (is.altered other at' k) = refl
  one_leaf step name (is.altered item at h) (is.conjecture other at' k l) = absurd (h (ap (λ x. x.formula) (same_some (item_named case.problem name) item other at at') ∙ k))
  one_leaf step name (is.altered item at h) (is.leaf other at' k l) = absurd (h (ap (λ x. x.formula) (same_some (item_named case.problem name) item other at at') ∙ k))
  one_leaf step name (is.conjecture item at h l) (is.unknown k) = absurd (some_or_none (item_named case.problem name) item at k)
  one_leaf step name (is.conjecture item at h l) (is.altered other at' k) = absurd (k (ap (λ x. x.formula) (same_some (item_named case.problem name) other item at' at) ∙ h))
  one_leaf step name (is.conjecture item at h l) (is.conjecture other at' k m) = refl
  one_leaf step name (is.conjecture item at h l) (is.leaf other at' k m) = absurd (true_or_false (names_conjecture case.problem name) l m)
  one_leaf step name (is.leaf item at h l) (is.unknown k) = absurd (some_or_none (item_named case.problem name) item at k)
  one_leaf step name (is.leaf item at h l) (is.altered other at' k) = absurd (k (ap (λ x. x.formula) (same_some (item_named case.problem name) other item at' at) ∙ h))
  one_leaf step name (is.leaf item at h l) (is.conjecture other at' k m) = absurd (true_or_false (names_conjecture case.problem name) m l)
  one_leaf step name (is.leaf item at h l) (is.leaf other at' k m) = refl

  one_plain : (i : ℕ) {v w : Verdict} → IsPlainVerdict case i v → IsPlainVerdict case i w → v ≡ w
  one_plain i (is.has_exists h) (is.has_exists k) = refl
  one_plain i (is.has_exists h) (is.alien symbol k a) = absurd (true_or_false (has_existential case i) h k)
  one_plain i (is.has_exists h) (is.by_clauses ls w k a l c) = absurd (true_or_false (has_existential case i) h k)
  one_plain i (is.alien symbol h a) (is.has_exists k) = absurd (true_or_false (has_existential case i) k h)
  one_plain i (is.alien symbol h a) (is.alien other k b) = ap (λ x. Wrong (AlienSymbol x)) (same_some (slice_get (aliens_of case i) 0) symbol other a b)
  one_plain i (is.alien symbol h a) (is.by_clauses ls w k b l c) = absurd (none_first (aliens_of case i) symbol a b)
  one_plain i (is.by_clauses ls v h a l c) (is.has_exists k) = absurd (true_or_false (has_existential case i) k h)
  one_plain i (is.by_clauses ls v h a l c) (is.alien symbol k b) = absurd (none_first (aliens_of case i) symbol b a)
  one_plain i (is.by_clauses ls v h a l c) (is.by_clauses ms w k b m d) =
      one_clausal ms (chains_one ms (lists_numbered case (parents_of case i) ms m)) (clause_rows (own_form case i)) (subst (λ x. IsClausalVerdict x (clause_rows (own_form case i)) v) (one_list (parents_of case i) ls ms l m) c) d

  one_flagged : (i : ℕ) {v w : Verdict} → IsFlaggedVerdict case i v → IsFlaggedVerdict case i w → v ≡ w
  one_flagged i (is.composes q r c may rep least) (is.composes p t d may' rep' least') =
      let r_is = one_representative case rep t (subst (λ x. Represents case x t) (parent_one case i p q may'.one may.one) rep') in
      ap ComposesBy (one_least_composed t (aliens_of case i) (clause_rows (own_form case i)) c d (subst (λ x. IsLeastComposed x (aliens_of case i) (clause_rows (own_form case i)) c) r_is least) least')
  one_flagged i (is.composes q r c may rep least) (is.composes_not p t may' rep' none) =
      let r_is = one_representative case rep t (subst (λ x. Represents case x t) (parent_one case i p q may'.one may.one) rep') in
      let moved = subst (λ x. IsLeastComposed x (aliens_of case i) (clause_rows (own_form case i)) c) r_is least in
      absurd (none moved.0 c moved.1)
  one_flagged i (is.composes q r c may rep least) (is.in_no_question none) = absurd (none q may)
  one_flagged i (is.composes_not q r may rep none) (is.composes p t d may' rep' least) =
      let r_is = one_representative case rep t (subst (λ x. Represents case x t) (parent_one case i p q may'.one may.one) rep') in
      absurd (subst (λ x. NoneComposes x (aliens_of case i) (clause_rows (own_form case i))) r_is none least.0 d least.1)
  one_flagged i (is.composes_not q r may rep none) (is.composes_not p t may' rep' none') = refl
  one_flagged i (is.composes_not q r may rep none) (is.in_no_question none') = refl
  one_flagged i (is.in_no_question none) (is.composes p t d may' rep' least) = absurd (none p may')
  one_flagged i (is.in_no_question none) (is.composes_not p t may' rep' none') = refl
  one_flagged i (is.in_no_question none) (is.in_no_question none') = refl

  one_other : (i : ℕ) (cth esa : Bool) {v w : Verdict} → IsOtherVerdict case i cth esa v → IsOtherVerdict case i cth esa w → v ≡ w
  one_other i false false h k = one_plain i h k
  one_other i true esa h k = one_flagged i h k
  one_other i false true h k = one_flagged i h k

  unfit_not : (b cth : Bool) → b ≡ cth → cth ≡ false → b ≡ true → ⊥
  unfit_not b cth fit c h = cc

  fit_not : (b cth : Bool) → b ≡ cth → cth ≡ true → b ≡ false → ⊥
  fit_not b cth fit c h = cc

  one_inference : (i : ℕ) (cth esa : Bool) {v w : Verdict} → IsInferenceVerdict case i cth esa v → IsInferenceVerdict case i cth esa w → v ≡ w
  one_inference i cth esa (is.conjecture_parent c h) (is.conjecture_parent d k) = refl
  one_inference i cth esa (is.conjecture_parent c h) (is.not_conjecture d k) = absurd (true_or_false cth d c)
  one_inference i cth esa (is.conjecture_parent c h) (is.same q fit one like) = absurd (unfit_not _ cth fit c h)
  one_inference i cth esa (is.conjecture_parent c h) (is.skolem q r entries fit one e like rep) = absurd (unfit_not _ cth fit c h)
  one_inference i cth esa (is.conjecture_parent c h) (is.other v fit nor o) = absurd (unfit_not _ cth fit c h)
  one_inference i cth esa (is.not_conjecture c h) (is.conjecture_parent d k) = absurd (true_or_false cth c d)
  one_inference i cth esa (is.not_conjecture c h) (is.not_conjecture d k) = refl
  one_inference i cth esa (is.not_conjecture c h) (is.same q fit one like) = absurd (fit_not _ cth fit c h)
  one_inference i cth esa (is.not_conjecture c h) (is.skolem q r entries fit one e like rep) = absurd (fit_not _ cth fit c h)
  one_inference i cth esa (is.not_conjecture c h) (is.other v fit nor o) = absurd (fit_not _ cth fit c h)
  one_inference i cth esa (is.same q fit one like) (is.conjecture_parent c h) = absurd (unfit_not _ cth fit c h)
  one_inference i cth esa (is.same q fit one like) (is.not_conjecture c h) = absurd (fit_not _ cth fit c h)
  one_inference i cth esa (is.same q fit one like) (is.same p fit' one' like') = refl
  one_inference i cth esa (is.same q fit one like) (is.skolem p r entries fit' one' e' like' rep') = absurd (like'.0 (subst (λ x. IsSame case i x) (parent_one case i q p one one') like))
  one_inference i cth esa (is.same q fit one like) (is.other v fit' nor o) = absurd ((nor q one).0 like)
  one_inference i cth esa (is.skolem q r entries fit one e like rep) (is.conjecture_parent c h) = absurd (unfit_not _ cth fit c h)
  one_inference i cth esa (is.skolem q r entries fit one e like rep) (is.not_conjecture c h) = absurd (fit_not _ cth fit c h)
  one_inference i cth esa (is.skolem q r entries fit one e like rep) (is.same p fit' one' like') = absurd (like.0 (subst (λ x. IsSame case i x) (parent_one case i p q one' one) like'))
  one_inference i cth esa (is.skolem q r entries fit one e like rep) (is.skolem p t entries' fit' one' e' like' rep') =
      let at = parent_one case i p q one' one in
      let r_is : r ≡ t = one_representative case rep t (subst (λ x. Represents case x t) at rep') in
      let m : entries ≡ entries' = one_map case i q entries entries' like.1 (subst (λ x. IsImage (own_form case x) entries' (own_form case i)) at like'.1) in
      ap (λ x. Structural (map_of (carried (own_form case q) x entries))) r_is ∙ ap (λ x. Structural (map_of (carried (own_form case q) t x))) m
      ∙ ap (λ x. Structural (map_of (carried (own_form case x) t entries'))) (sym at)
  one_inference i cth esa (is.skolem q r entries fit one e like rep) (is.other v fit' nor o) = absurd ((nor q one).1 e entries like.1)
  one_inference i cth esa (is.other v fit nor o) (is.conjecture_parent c h) = absurd (unfit_not _ cth fit c h)
  one_inference i cth esa (is.other v fit nor o) (is.not_conjecture c h) = absurd (fit_not _ cth fit c h)
  one_inference i cth esa (is.other v fit nor o) (is.same q fit' one like) = absurd ((nor q one).0 like)
  one_inference i cth esa (is.other v fit nor o) (is.skolem q r entries fit' one e like rep) = absurd ((nor q one).1 e entries like.1)
  one_inference i cth esa (is.other v fit nor o) (is.other w fit' nor' p) = one_other i cth esa o p

  full_not : (i q : ℕ) (r : Nf) (limit : Limit) → MayCompose case i q → Represents case q r → full_limit r ≡ Some limit → is.IsWithinAll case i → ⊥
  full_not i q r limit may rep h all =
      let w = all.full q may in
      let e = one_representative case rep w.0 w.1 in
      some_or_none (full_limit w.0) limit (subst (λ x. full_limit x ≡ Some limit) e h) w.2

  pub one_verdict : {i : ℕ} {v : Verdict} → HasVerdict case i v → (w : Verdict) → HasVerdict case i w → v ≡ w
  one_verdict (is.over i l h) _ (is.over _ m k) = ap Over (same_some (limit_at case i) l m h k)
  one_verdict (is.over i l h) _ (is.over_full _ q r m within may rep k) = absurd (some_or_none (limit_at case i) l h within)
  one_verdict (is.over i l h) _ (is.of_leaf _ step name w all at from k) = absurd (some_or_none (limit_at case i) l h all.within)
  one_verdict (is.over i l h) _ (is.of_inference _ cth esa w all from k) = absurd (some_or_none (limit_at case i) l h all.within)
  one_verdict (is.over_full i q r l within may rep h) _ (is.over _ m k) = absurd (some_or_none (limit_at case i) m k within)
  one_verdict (is.over_full i q r l within may rep h) _ (is.over_full _ p t m within' may' rep' k) =
      let e = one_representative case rep t (subst (λ x. Represents case x t) (parent_one case i p q may'.one may.one) rep') in
      ap Over (same_some (full_limit t) l m (subst (λ x. full_limit x ≡ Some l) e h) k)
  one_verdict (is.over_full i q r l within may rep h) _ (is.of_leaf _ step name w all at from k) = absurd (full_not i q r l may rep h all)
  one_verdict (is.over_full i q r l within may rep h) _ (is.of_inference _ cth esa w all from k) = absurd (full_not i q r l may rep h all)
  one_verdict (is.of_leaf i step name v all at from h) _ (is.over _ m k) = absurd (some_or_none (limit_at case i) m k all.within)
  one_verdict (is.of_leaf i step name v all at from h) _ (is.over_full _ q r m within may rep k) = absurd (full_not i q r m may rep k all)
  one_verdict (is.of_leaf i step name v all at from h) w (is.of_leaf _ other name' _ all' at' from' k) =
      let s : step ≡ other = same_some (step_in case.steps i) step other at at' in
      let n : name ≡ name' = same_name name name' (sym from ∙ ap (λ x. x.source) s ∙ from') in
      one_leaf other name' (subst (λ x. IsLeafVerdict case other x v) n (subst (λ x. IsLeafVerdict case x name v) s h)) k
  one_verdict (is.of_leaf i step name v all at from h) _ (is.of_inference _ cth esa w all' derived k) = absurd (not_both case i name cth esa (step, at, from) derived)
  one_verdict (is.of_inference i cth esa v all derived h) _ (is.over _ m k) = absurd (some_or_none (limit_at case i) m k all.within)
  one_verdict (is.of_inference i cth esa v all derived h) _ (is.over_full _ q r m within may rep k) = absurd (full_not i q r m may rep k all)
  one_verdict (is.of_inference i cth esa v all derived h) _ (is.of_leaf _ step name w all' at from k) = absurd (not_both case i name cth esa (step, at, from) derived)
  one_verdict (is.of_inference i cth esa v all derived h) w (is.of_inference _ cth' esa' _ all' derived' k) =
      let e = derived_one case i cth esa cth' esa' derived derived' in
      one_inference i cth' esa' (subst (λ x. IsInferenceVerdict case i cth' x v) e.1 (subst (λ x. IsInferenceVerdict case i x esa v) e.0 h)) k

  pub one_verdict_list : (one other : List Verdict) → AreVerdicts case one → AreVerdicts case other → one ≡ other
  one_verdict_list one other (vs, h, e) (ws, k, f) =
      let same = same_items vs ws (h.long ∙ sym k.long) (λ place v w a b. one_verdict (h.each place v a) w (k.each place w b)) in
      e ∙ ap (freshened case.problem.symbols) same ∙ sym f
