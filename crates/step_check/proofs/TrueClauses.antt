-- A clause that follows by a justification or by a chain is true where the clauses of the lists are.
use Rattle.std.proofs.Common.{◌≡◌, ◌<◌, ℕ, zero, suc, Bool, true, false, not, ◌||◌, List, [], ◌∷◌, ◌++◌, Some, map, length, slice_get, slice_index_or, refl, sym, ap, ap₂, subst, ◌∙◌, arith, inl, inr}
use Rattle.dk_syntax.proofs.ListLaws.{ForEach, for_each}
use Rattle.dk_syntax.proofs.SubstitutionLaws.{substituted-Any, substituted-App, substituted-Var}
use Rattle.dk_syntax.proofs.TermLaws.{term_induction}
use Rattle.dk_syntax.specs.Terms.{instance, substituted}
use Rattle.dk_syntax.specs.declared.Clause.{Clause}
use Rattle.dk_syntax.specs.declared.Literal.{Literal}
use Rattle.dk_syntax.specs.declared.Term.{Term}
use Rattle.normal_form.proofs.BoolLaws.{left_false, or_left_step, or_of_left, or_of_right, right_false, test_cases}
use Rattle.normal_form.proofs.FormEquations.{value-Any, value-App, value-Var}
use Rattle.normal_form.proofs.SoundLists.{clause-renamed}
use Rattle.normal_form.specs.ClauseLists.{quants_of}
use Rattle.normal_form.specs.ClauseTruth.{RowsHold, clause_truth}
use Rattle.normal_form.specs.Renaming.{place_of}
use Rattle.normal_form.specs.Truth.{Interpretation, literal_truth, signed, value}
use Rattle.normal_form.specs.declared.clause_list.ClauseList.{ClauseList}
use Rattle.normal_form.specs.declared.clause_list.ClauseRow.{ClauseRow}
use Rattle.step_chain.specs.Chains.{alone, IsContinuation, IsLeastChain}
use Rattle.step_chain.specs.Chains as go
use Rattle.step_chain.specs.Resolvents.{AreTaken, IsOnce, IsResolvent, kept, left_over, Link}
use Rattle.step_chain.specs.Resolvents as by
use Rattle.step_chain.specs.declared.chain.Chain.{Chain}
use Rattle.step_clause.specs.Candidates.{affirmed, ArePicked, Candidate, denied, IsClause, Resolves, resolution, Subsumes, subsumption, Works}
use Rattle.step_clause.specs.Justifications.{candidate_of, IsJustification}
use Rattle.step_clause.specs.declared.justification.Justification.{Justification}

-- ---- truth values and lists

both_ways : (b : Bool) → b ≡ true → b ≡ false → ⊥
both_ways b h k = cc

or_only_right : (a b : Bool) → a || b ≡ true → a ≡ false → b ≡ true
or_only_right true b h k = absurd (cc)
or_only_right false b h k = h

or_neither : (a b : Bool) → a ≡ false → b ≡ false → a || b ≡ false
or_neither true b h k = absurd (cc)
or_neither false b h k = k

-- of a literal and its negation one is false
other_sign : (sign b : Bool) → signed sign b ≡ true → signed (not sign) b ≡ false
other_sign true true h = refl
other_sign true false h = absurd (cc)
other_sign false true h = absurd (cc)
other_sign false false h = refl

one_item : {X : Type 0} (x y : X) → Some x ≡ Some y → x ≡ y
one_item x y h = cc

-- ---- instances

module _ {D : Type 0} (i : Interpretation D) (w : ℕ → D) where
  -- the values that a clause's variables have by a substitution
  abbrev pub under : (ℕ → Term) → ℕ → D
  under t n = value i w (t n)

  abbrev InstanceValue : (ℕ → Term) → Term → Type 0
  InstanceValue t term = value i w (substituted t term) ≡ value i (under t) term

  instance_values : (t : ℕ → Term) (args : List Term) → ForEach (InstanceValue t) args → map (value i w) (map (substituted t) args) ≡ map (value i (under t)) args
  instance_values t [] h = refl
  instance_values t (one ∷ args) h = ap₂ (λ x xs. x ∷ xs) h.0 (instance_values t args h.1)

  instance_value : (t : ℕ → Term) (term : Term) → InstanceValue t term
  instance_value t = term_induction (InstanceValue t)
      (λ n. ap (value i w) (substituted-Var t n) ∙ sym (value-Var i (under t) n))
      (λ s args h. ap (value i w) (substituted-App t s args) ∙ value-App i w s (map (substituted t) args) ∙ ap (i.function s) (instance_values t args h) ∙ sym (value-App i (under t) s args))
      (ap (value i w) (substituted-Any t) ∙ value-Any i w ∙ sym (value-Any i (under t)))

  -- an instance is true where the literal is at the values of the substitution
  pub literal_instance : (t : ℕ → Term) (l : Literal) → literal_truth i w (instance t l) ≡ literal_truth i (under t) l
  literal_instance t l = ap (λ values. signed l.positive (i.predicate l.pred values)) (instance_values t l.args (for_each (InstanceValue t) (instance_value t) l.args))

  -- a clause with a true literal is true
  one_true : (lits : List Literal) (place : ℕ) (l : Literal) → slice_get lits place ≡ Some l → literal_truth i w l ≡ true → clause_truth i w lits ≡ true
  one_true [] place l at h = absurd (cc)
  one_true (m ∷ rest) zero l at h = or_of_left (literal_truth i w m) (clause_truth i w rest) (ap (literal_truth i w) (one_item m l at) ∙ h)
  one_true (m ∷ rest) (suc k) l at h = or_of_right (literal_truth i w m) (clause_truth i w rest) (one_true rest k l at h)

  -- a false clause has no true literal
  none_true : (lits : List Literal) (l : Literal) (k : ℕ) → k < length lits → slice_index_or lits k l ≡ l → clause_truth i w lits ≡ false → literal_truth i w l ≡ false
  none_true [] l k less at h = absurd (omega (arith, less))
  none_true (m ∷ rest) l zero less at h = ap (literal_truth i w) (sym at) ∙ left_false (literal_truth i w m) (clause_truth i w rest) h
  none_true (m ∷ rest) l (suc k) less at h = none_true rest l k (omega (arith, less)) at (right_false (literal_truth i w m) (clause_truth i w rest) h)

  both_parts : (xs ys : List Literal) → clause_truth i w (xs ++ ys) ≡ clause_truth i w xs || clause_truth i w ys
  both_parts [] ys = refl
  both_parts (x ∷ xs) ys = ap (λ z. literal_truth i w x || z) (both_parts xs ys) ∙ or_left_step (literal_truth i w x) (clause_truth i w xs) (clause_truth i w ys)

  -- ---- justifications

  subsumed : (t : ℕ → Term) (target clause : List Literal) (picks : List ℕ) → Subsumes t target clause picks → clause_truth i (under t) clause ≡ true → clause_truth i w target ≡ true
  subsumed t target [] picks s h = absurd (cc)
  subsumed t target (l ∷ rest) [] s h = absurd s
  subsumed t target (l ∷ rest) (pick ∷ picks) s h = elim (test_cases (literal_truth i (under t) l)) [
    | inl holds ↦ one_true target pick (instance t l) s.0 (literal_instance t l ∙ holds)
    | inr fails ↦ subsumed t target rest picks s.1 (or_only_right (literal_truth i (under t) l) (clause_truth i (under t) rest) h fails)
  ]

  -- where the pivot is false, a true literal stands in the target
  picked : (t : ℕ → Term) (target : List Literal) (pivot : Literal) (clause : List Literal) (picks : List ℕ) → literal_truth i w pivot ≡ false → ArePicked t target pivot clause picks
      → clause_truth i (under t) clause ≡ true → clause_truth i w target ≡ true
  picked t target pivot [] picks out s h = absurd (cc)
  picked t target pivot (l ∷ rest) [] out s h = absurd s
  picked t target pivot (l ∷ rest) (pick ∷ picks) out s h = elim (test_cases (literal_truth i (under t) l)) [
    | inl holds ↦ elim s.0 [
      | inl at ↦ one_true target pick (instance t l) at (literal_instance t l ∙ holds)
      | inr is ↦ absurd (both_ways (literal_truth i (under t) l) holds (sym (literal_instance t l) ∙ (ap (literal_truth i w) is.0 ∙ out)))
    ]
    | inr fails ↦ picked t target pivot rest picks out s.1 (or_only_right (literal_truth i (under t) l) (clause_truth i (under t) rest) h fails)
  ]

  resolved : (t u : ℕ → Term) (target positive negative : List Literal) (picks others : List ℕ) → Resolves t u target positive negative picks others
      → clause_truth i (under t) positive ≡ true → clause_truth i (under u) negative ≡ true → clause_truth i w target ≡ true
  resolved t u target positive negative picks others r h k = elim (test_cases (i.predicate r.0 (map (value i w) r.1))) [
    | inl holds ↦ picked u target (denied r.0 r.1) negative others (ap not holds) r.3.0 k
    | inr fails ↦ picked t target (affirmed r.0 r.1) positive picks fails r.2.0 h
  ]

  -- ---- exact resolvents

  -- where the literal that is taken is false, a true literal is kept
  kept_true : (t : ℕ → Term) (pivot : Literal) (clause : List Literal) (taken : List Bool) → literal_truth i w pivot ≡ false → AreTaken t pivot clause taken
      → clause_truth i (under t) clause ≡ true → clause_truth i w (map (instance t) (kept clause taken)) ≡ true
  kept_true t pivot [] taken out s h = absurd (cc)
  kept_true t pivot (l ∷ rest) [] out s h = absurd s
  kept_true t pivot (l ∷ rest) (true ∷ taken) out s h =
      let fails : literal_truth i (under t) l ≡ false = sym (literal_instance t l) ∙ (ap (literal_truth i w) s.0 ∙ out) in
      kept_true t pivot rest taken out s.1 (or_only_right (literal_truth i (under t) l) (clause_truth i (under t) rest) h fails)
  kept_true t pivot (l ∷ rest) (false ∷ taken) out s h = elim (test_cases (literal_truth i (under t) l)) [
    | inl holds ↦ or_of_left (literal_truth i w (instance t l)) (clause_truth i w (map (instance t) (kept rest taken))) (literal_instance t l ∙ holds)
    | inr fails ↦ or_of_right (literal_truth i w (instance t l)) (clause_truth i w (map (instance t) (kept rest taken)))
        (kept_true t pivot rest taken out s (or_only_right (literal_truth i (under t) l) (clause_truth i (under t) rest) h fails))
  ]

  -- each literal once is as true as all of them
  once_true : (seen all once : List Literal) → IsOnce seen all once → clause_truth i w seen ≡ false → clause_truth i w all ≡ true → clause_truth i w once ≡ true
  once_true _ _ _ (by.none seen) out h = absurd (cc)
  once_true _ _ _ (by.again seen l rest once there o) out h =
      let fails : literal_truth i w l ≡ false = none_true seen l there.0 there.1 there.2 out in
      once_true seen rest once o out (or_only_right (literal_truth i w l) (clause_truth i w rest) h fails)
  once_true _ _ _ (by.new seen l rest once absent o) out h = elim (test_cases (literal_truth i w l)) [
    | inl holds ↦ or_of_left (literal_truth i w l) (clause_truth i w once) holds
    | inr fails ↦ or_of_right (literal_truth i w l) (clause_truth i w once)
        (once_true (seen ++ l ∷ []) rest once o (both_parts seen (l ∷ []) ∙ or_neither (clause_truth i w seen) (clause_truth i w (l ∷ [])) out (or_neither (literal_truth i w l) false fails refl))
        (or_only_right (literal_truth i w l) (clause_truth i w rest) h fails))
  ]

  left_true : (first second : Clause) (link : Link) (t u : ℕ → Term) → by.AreUnified link.sign first second link.taken link.others t u
      → clause_truth i (under t) first.lits ≡ true → clause_truth i (under u) second.lits ≡ true → clause_truth i w (left_over first second link.taken link.others t u) ≡ true
  left_true first second link t u s h k =
      let xs = map (instance t) (kept first.lits link.taken) in
      let ys = map (instance u) (kept second.lits link.others) in
      both_parts xs ys ∙ elim (test_cases (literal_truth i w (by.signed link.sign s.0 s.1))) [
        | inl holds ↦ or_of_right (clause_truth i w xs) (clause_truth i w ys)
            (kept_true u (by.signed (not link.sign) s.0 s.1) second.lits link.others (other_sign link.sign (i.predicate s.0 (map (value i w) s.1)) holds) s.3 k)
        | inr fails ↦ or_of_left (clause_truth i w xs) (clause_truth i w ys) (kept_true t (by.signed link.sign s.0 s.1) first.lits link.taken fails s.2 h)
      ]

module _ {D : Type 0} (i : Interpretation D) where
  -- the clause is true at all values of its variables
  abbrev pub ClauseHolds : Clause → Type 0
  ClauseHolds clause = (w : ℕ → D) → clause_truth i w clause.lits ≡ true

  -- each clause of each list is
  abbrev pub ListsHold : List ClauseList → Type 0
  ListsHold [] = Unit {0}
  ListsHold (list ∷ rest) = RowsHold i list.rows × ListsHold rest

  list_at : (lists : List ClauseList) (k : ℕ) (list : ClauseList) → slice_get lists k ≡ Some list → ListsHold lists → RowsHold i list.rows
  list_at [] k list at h = absurd (cc)
  list_at (one ∷ rest) zero list at h = subst (λ x. RowsHold i x.rows) (one_item one list at) h.0
  list_at (one ∷ rest) (suc k) list at h = list_at rest k list at h.1

  row_at : (rows : List ClauseRow) (k : ℕ) (row : ClauseRow) → slice_get rows k ≡ Some row → RowsHold i rows → ClauseHolds row.clause
  row_at [] k row at h = absurd (cc)
  row_at (one ∷ rest) zero row at h = subst (λ x. ClauseHolds x.clause) (one_item one row at) h.0
  row_at (one ∷ rest) (suc k) row at h = row_at rest k row at h.1

  clause_at : (lists : List ClauseList) (parent number : ℕ) (clause : Clause) → IsClause lists parent number clause → ListsHold lists → ClauseHolds clause
  clause_at lists parent number clause is h = subst ClauseHolds is.4 (row_at is.0.rows number is.1 is.3 (list_at lists parent is.0 is.2 h))

  works_true : (target : Clause) (lists : List ClauseList) (candidate : Candidate) → Works target lists candidate → ListsHold lists → ClauseHolds target
  works_true target lists (subsumption parent number picks) k h w =
      let t = k.2.0 in subsumed i w t target.lits k.0.lits picks k.2.1 (clause_at lists parent number k.0 k.1 h (under i w t))
  works_true target lists (resolution parent number other other_number picks others) k h w =
      let t = k.4.0 in
      let u = k.4.1 in
      resolved i w t u target.lits k.0.lits k.1.lits picks others k.4.2
      (clause_at lists parent number k.0 k.2 h (under i w t)) (clause_at lists other other_number k.1 k.3 h (under i w u))

  pub justified_true : (target : Clause) (lists : List ClauseList) (step : Justification) → IsJustification target lists (Some step) → ListsHold lists → ClauseHolds target
  justified_true target lists step is h = works_true target lists (candidate_of step) is.0.0 h

  resolvent_true : (number : ℕ) (first second : Clause) (link : Link) (resolvent : Clause) (step : Justification) → IsResolvent number first second link resolvent step
      → ClauseHolds first → ClauseHolds second → ClauseHolds resolvent
  resolvent_true number first second link resolvent step r h k w =
      let place = place_of (quants_of r.lits) in
      let v : ℕ → D = λ n. w (place n) in
      let left = left_true i v first second link r.t r.u r.general.0 (h (under i v r.t)) (k (under i v r.u)) in
      let all = left_over first second link.taken link.others r.t r.u in
      ap (λ c. clause_truth i w c.lits) r.clause ∙ (clause-renamed i w place r.lits ∙ once_true i v [] all r.lits r.once refl left)

  goes_on : (target : Clause) {number : ℕ} {middle : Clause} {lists : List ClauseList} {links : List Link} {mids : List Clause} {steps : List Justification}
      → IsContinuation target number middle lists links mids steps → ClauseHolds middle → ListsHold lists → ClauseHolds target
  goes_on target (go.ends number middle last step is) m h = justified_true target (alone middle ∷ last ∷ []) step is ((m, tt), h)
  goes_on target (go.goes number middle next rest link links row resolvent mids step steps at r more) m h =
      goes_on target more (resolvent_true number middle row.clause link resolvent step r m (row_at next.rows link.number row at h.0)) h.1

  pub chained_true : (target : Clause) (lists : List ClauseList) (chain : Chain) → IsLeastChain target lists chain → ListsHold lists → ClauseHolds target
  chained_true target lists chain is h =
      let c = is.1 in
      let both = subst ListsHold c.whole h in
      goes_on target c.continues (row_at c.first.rows is.0.start c.row c.at both.0) both.1
