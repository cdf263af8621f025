-- Ground instances of clauses that follow by a justification or as an exact resolvent, at truth values of ground atoms.
use Rattle.std.proofs.Common.{◌≡◌, ◌<◌, ◌≤◌, ◌+◌, ℕ, zero, suc, Bool, true, false, not, ◌||◌, if◌then◌else◌, cond, nat_eq, nat_lt, List, [], ◌∷◌, ◌++◌, map, length, Some, slice_get, slice_index_or, arith, refl, sym, ap, ap₂, ◌∙◌, subst, inl, inr}
use Rattle.std.proofs.lemmas.Bool.{or_left, or_right}
use Rattle.std.proofs.lemmas.Bool.Decides.{nat_tests}
use Rattle.std.proofs.lemmas.List.{get_or-map, get_or_past}
use Rattle.std.proofs.lemmas.List.FromFn.{get_or-map-range_with_len, length-map-range_with_len}
use Rattle.std.specs.List.{range_with_len}
use Rattle.dk_syntax.proofs.ListLaws.{ForEach}
use Rattle.dk_syntax.proofs.SubstitutionLaws.{after, agree, substituted-Any, substituted-Var}
use Rattle.dk_syntax.specs.Terms.{any_true, EachBelow, has_variable, instance, substituted}
use Rattle.dk_syntax.specs.declared.clause.Clause.{Clause}
use Rattle.dk_syntax.specs.declared.clause.Literal.{Literal}
use Rattle.dk_syntax.specs.declared.term.Term.{Term}
use Rattle.dk_syntax.specs.declared.term.Term.TheVariants.{Any, Var}
use Rattle.normal_form.proofs.BoolLaws.{left_false, or_left_step, or_of_left, or_of_right, right_false, test_cases}
use Rattle.normal_form.specs.ClauseLists.{clause_over, has_number, quants_of}
use Rattle.normal_form.specs.Renaming.{place_of, renamed, renamed_literal}
use Rattle.normal_form.specs.Truth.{signed}
use Rattle.step_chain.proofs.SameLiterals.{renames, with_args}
use Rattle.step_chain.specs.Resolvents.{AreTaken, AreUnified, closed_over, closed_terms_over, IsOnce, kept, left_over}
use Rattle.step_chain.specs.Resolvents as by
use Rattle.step_clause.specs.Candidates.{affirmed, ArePicked, denied, Resolves, Subsumes}
use Rattle.step_clause.specs.Justifications.{closed, closed_terms, IsNumbered, LiteralsBelow}
use Rattle.ground_instances.specs.Laws.{Atoms, clause_holds, literal_holds}
use Rattle.ground_instances.specs.Needs.{ground, value_in}

-- ---- truth values and items

both_ways : (b : Bool) → b ≡ true → b ≡ false → ⊥
both_ways b h k = cc

or_only_right : (a b : Bool) → a || b ≡ true → a ≡ false → b ≡ true
or_only_right true b h k = absurd (cc)
or_only_right false b h k = h

or_neither : (a b : Bool) → a ≡ false → b ≡ false → a || b ≡ false
or_neither true b h k = absurd (cc)
or_neither false b h k = k

other_sign : (sign b : Bool) → signed sign b ≡ true → signed (not sign) b ≡ false
other_sign true true h = refl
other_sign true false h = absurd (cc)
other_sign false true h = absurd (cc)
other_sign false false h = refl

one_item : {X : Type 0} (x y : X) → Some x ≡ Some y → x ≡ y
one_item x y h = cc

-- ---- an instance of an instance

-- the literal's instance by v is the instance by w of that by t
abbrev pub IsMoved : (ℕ → Term) → (ℕ → Term) → (ℕ → Term) → Literal → Type 0
IsMoved w t v literal = instance v literal ≡ instance w (instance t literal)

module _ (n : ℕ) (w t v : ℕ → Term) (to : (j : ℕ) → j < n → v j ≡ substituted w (t j)) where
  args_move : (args : List Term) → EachBelow n args → map (substituted v) args ≡ map (substituted w) (map (substituted t) args)
  args_move [] h = refl
  args_move (a ∷ args) h =
      ap₂ (λ x xs. x ∷ xs)
      (agree v (λ k. substituted w (t k)) a (λ k e. to k (h k (or_left (has_variable k a) (any_true (map (has_variable k) args)) e))) ∙ sym (after w t a))
      (args_move args (λ k e. h k (or_right (has_variable k a) (any_true (map (has_variable k) args)) e)))

  pub literals_move : (lits : List Literal) → LiteralsBelow n lits → ForEach (IsMoved w t v) lits
  literals_move [] h = tt
  literals_move (l ∷ lits) h = (ap (with_args l) (args_move l.args (h zero l (omega arith))), literals_move lits (λ k d less. h (suc k) d (omega (arith, less))))

args_renamed : (w : ℕ → Term) (p : ℕ → ℕ) (args : List Term) → map (substituted w) (map (renamed p) args) ≡ map (substituted (λ k. w (p k))) args
args_renamed w p [] = refl
args_renamed w p (a ∷ args) =
    ap₂ (λ x xs. x ∷ xs)
    (ap (substituted w) (renames p a) ∙ after w (λ k. Var (p k)) a ∙ agree (λ k. substituted w (Var (p k))) (λ k. w (p k)) a (λ k e. substituted-Var w (p k)))
    (args_renamed w p args)

literals_renamed : (w : ℕ → Term) (p : ℕ → ℕ) (lits : List Literal) → map (instance w) (map (renamed_literal p) lits) ≡ map (instance (λ k. w (p k))) lits
literals_renamed w p [] = refl
literals_renamed w p (l ∷ lits) = ap₂ (λ x xs. x ∷ xs) (ap (with_args l) (args_renamed w p l.args)) (literals_renamed w p lits)

-- ---- the terms of an instance

-- the terms that an instance has by those of a justification
in_terms : (terms : List Term) (closing w : ℕ → Term) → ((k : ℕ) → substituted (value_in terms) (closing k) ≡ w k) → (n : ℕ) (t : ℕ → Term) (j : ℕ) → j < n
    → value_in (map (ground terms) (map (λ k. substituted closing (t k)) (range_with_len 0 n))) j ≡ substituted w (t j)
in_terms terms closing w same n t j less =
    let f : ℕ → Term = λ k. substituted closing (t k) in
    let here : 0 + j ≡ j = omega arith in
    get_or-map (ground terms) (map f (range_with_len 0 n)) j Any Any (subst (λ m. j < m) (sym (length-map-range_with_len f 0 n)) less)
    ∙ ap (ground terms) (get_or-map-range_with_len f 0 n j j Any less here)
    ∙ after (value_in terms) closing (t j) ∙ agree (λ k. substituted (value_in terms) (closing k)) w (t j) (λ k e. same k)

past_terms : (terms : List Term) (n : ℕ) → length terms ≡ n → (k : ℕ) → n ≤ k → value_in terms k ≡ Any
past_terms terms n long k past = get_or_past terms k Any (omega (arith, long, past))

not_less : (k n : ℕ) → nat_lt k n ≡ false → n ≤ k
not_less k n h = grind (arith, nat_tests)

pub closed_value : (terms : List Term) (frozen : ℕ) → length terms ≡ frozen → (k : ℕ) → substituted (value_in terms) (closed frozen k) ≡ value_in terms k
closed_value terms frozen long k = by_test (nat_lt k frozen) refl
  where
    by_test : (b : Bool) → nat_lt k frozen ≡ b → substituted (value_in terms) (if b then Var k else Any) ≡ value_in terms k
    by_test true h = substituted-Var (value_in terms) k
    by_test false h = substituted-Any (value_in terms) ∙ sym (past_terms terms frozen long k (not_less k frozen h))

no_place : (q : List ℕ) (k : ℕ) → has_number q k ≡ false → length q ≤ place_of q k
no_place [] k h = omega arith
no_place (m ∷ q) k h = by_test (nat_eq m k) refl (no_place q k (right_false (nat_eq m k) (has_number q k) h))
  where
    by_test : (b : Bool) → nat_eq m k ≡ b → length q ≤ place_of q k → suc (length q) ≤ (if b then 0 else 1 + place_of q k)
    by_test true e later = absurd (both_ways (nat_eq m k) e (left_false (nat_eq m k) (has_number q k) h))
    by_test false e later = omega (arith, later)

over_value : (terms : List Term) (q : List ℕ) → length terms ≡ length q → (k : ℕ) → substituted (value_in terms) (closed_over q k) ≡ value_in terms (place_of q k)
over_value terms q long k = by_test (has_number q k) refl
  where
    by_test : (b : Bool) → has_number q k ≡ b → substituted (value_in terms) (cond b (Var (place_of q k)) Any) ≡ value_in terms (place_of q k)
    by_test true h = substituted-Var (value_in terms) (place_of q k)
    by_test false h = substituted-Any (value_in terms) ∙ sym (past_terms terms (length q) long (place_of q k) (no_place q k h))

-- ---- true instances

module _ (atoms : Atoms) where
  -- the clause is true with these terms for its variables
  abbrev pub Sat : (ℕ → Term) → List Literal → Type 0
  Sat w lits = clause_holds atoms (map (instance w) lits) ≡ true

  abbrev holds : (ℕ → Term) → Literal → Bool
  holds w literal = literal_holds atoms (instance w literal)

  abbrev some : (ℕ → Term) → List Literal → Bool
  some w lits = clause_holds atoms (map (instance w) lits)

  module _ (w : ℕ → Term) where
    -- a clause with a true literal is true
    one_true : (lits : List Literal) (place : ℕ) (l : Literal) → slice_get lits place ≡ Some l → holds w l ≡ true → Sat w lits
    one_true [] place l at h = absurd (cc)
    one_true (m ∷ rest) zero l at h = or_of_left (holds w m) (some w rest) (ap (holds w) (one_item m l at) ∙ h)
    one_true (m ∷ rest) (suc k) l at h = or_of_right (holds w m) (some w rest) (one_true rest k l at h)

    -- a false clause has no true literal
    none_true : (lits : List Literal) (l : Literal) (k : ℕ) → k < length lits → slice_index_or lits k l ≡ l → some w lits ≡ false → holds w l ≡ false
    none_true [] l k less at h = absurd (omega (arith, less))
    none_true (m ∷ rest) l zero less at h = ap (holds w) (sym at) ∙ left_false (holds w m) (some w rest) h
    none_true (m ∷ rest) l (suc k) less at h = none_true rest l k (omega (arith, less)) at (right_false (holds w m) (some w rest) h)

    both_parts : (xs ys : List Literal) → some w (xs ++ ys) ≡ some w xs || some w ys
    both_parts [] ys = refl
    both_parts (x ∷ xs) ys = ap (λ z. holds w x || z) (both_parts xs ys) ∙ or_left_step (holds w x) (some w xs) (some w ys)

    subsumed : (t v : ℕ → Term) (target clause : List Literal) (picks : List ℕ) → ForEach (IsMoved w t v) clause → Subsumes t target clause picks → Sat v clause → Sat w target
    subsumed t v target [] picks m s h = absurd (cc)
    subsumed t v target (l ∷ rest) [] m s h = absurd s
    subsumed t v target (l ∷ rest) (pick ∷ picks) m s h = elim (test_cases (holds v l)) [
      | inl stands ↦ one_true target pick (instance t l) s.0 (ap (literal_holds atoms) (sym m.0) ∙ stands)
      | inr fails ↦ subsumed t v target rest picks m.1 s.1 (or_only_right (holds v l) (some v rest) h fails)
    ]

    -- where the pivot is false, a true literal stands in the target
    picked : (t v : ℕ → Term) (target : List Literal) (pivot : Literal) (clause : List Literal) (picks : List ℕ) → holds w pivot ≡ false → ForEach (IsMoved w t v) clause
        → ArePicked t target pivot clause picks → Sat v clause → Sat w target
    picked t v target pivot [] picks out m s h = absurd (cc)
    picked t v target pivot (l ∷ rest) [] out m s h = absurd s
    picked t v target pivot (l ∷ rest) (pick ∷ picks) out m s h = elim (test_cases (holds v l)) [
      | inl stands ↦ elim s.0 [
        | inl at ↦ one_true target pick (instance t l) at (ap (literal_holds atoms) (sym m.0) ∙ stands)
        | inr is ↦ absurd (both_ways (holds v l) stands (ap (literal_holds atoms) (m.0 ∙ ap (instance w) is.0) ∙ out))
      ]
      | inr fails ↦ picked t v target pivot rest picks out m.1 s.1 (or_only_right (holds v l) (some v rest) h fails)
    ]

    resolved : (t v u x : ℕ → Term) (target positive negative : List Literal) (picks others : List ℕ) → ForEach (IsMoved w t v) positive → ForEach (IsMoved w u x) negative
        → Resolves t u target positive negative picks others → Sat v positive → Sat x negative → Sat w target
    resolved t v u x target positive negative picks others m n r h k = elim (test_cases (atoms r.0 (map (substituted w) r.1))) [
      | inl stands ↦ picked u x target (denied r.0 r.1) negative others (ap not stands) n r.3.0 k
      | inr fails ↦ picked t v target (affirmed r.0 r.1) positive picks fails m r.2.0 h
    ]

    -- where the literal that is taken is false, a true literal is kept
    kept_true : (t v : ℕ → Term) (pivot : Literal) (clause : List Literal) (taken : List Bool) → holds w pivot ≡ false → ForEach (IsMoved w t v) clause → AreTaken t pivot clause taken
        → Sat v clause → Sat w (map (instance t) (kept clause taken))
    kept_true t v pivot [] taken out m s h = absurd (cc)
    kept_true t v pivot (l ∷ rest) [] out m s h = absurd s
    kept_true t v pivot (l ∷ rest) (true ∷ taken) out m s h =
        let fails : holds v l ≡ false = ap (literal_holds atoms) (m.0 ∙ ap (instance w) s.0) ∙ out in
        kept_true t v pivot rest taken out m.1 s.1 (or_only_right (holds v l) (some v rest) h fails)
    kept_true t v pivot (l ∷ rest) (false ∷ taken) out m s h = elim (test_cases (holds v l)) [
      | inl stands ↦ or_of_left (holds w (instance t l)) (some w (map (instance t) (kept rest taken))) (ap (literal_holds atoms) (sym m.0) ∙ stands)
      | inr fails ↦ or_of_right (holds w (instance t l)) (some w (map (instance t) (kept rest taken)))
          (kept_true t v pivot rest taken out m.1 s (or_only_right (holds v l) (some v rest) h fails))
    ]

    -- each literal once is as true as all of them
    once_true : (seen all once : List Literal) → IsOnce seen all once → some w seen ≡ false → Sat w all → Sat w once
    once_true _ _ _ (by.none seen) out h = absurd (cc)
    once_true _ _ _ (by.again seen l rest once there o) out h =
        let fails : holds w l ≡ false = none_true seen l there.0 there.1 there.2 out in
        once_true seen rest once o out (or_only_right (holds w l) (some w rest) h fails)
    once_true _ _ _ (by.new seen l rest once absent o) out h = elim (test_cases (holds w l)) [
      | inl stands ↦ or_of_left (holds w l) (some w once) stands
      | inr fails ↦ or_of_right (holds w l) (some w once)
          (once_true (seen ++ l ∷ []) rest once o (both_parts seen (l ∷ []) ∙ or_neither (some w seen) (some w (l ∷ [])) out (or_neither (holds w l) false fails refl))
          (or_only_right (holds w l) (some w rest) h fails))
    ]

    left_true : (sign : Bool) (first second : Clause) (taken others : List Bool) (t v u x : ℕ → Term) → AreUnified sign first second taken others t u
        → ForEach (IsMoved w t v) first.lits → ForEach (IsMoved w u x) second.lits → Sat v first.lits → Sat x second.lits → Sat w (left_over first second taken others t u)
    left_true sign first second taken others t v u x s m n h k =
        let xs = map (instance t) (kept first.lits taken) in
        let ys = map (instance u) (kept second.lits others) in
        both_parts xs ys ∙ elim (test_cases (holds w (by.signed sign s.0 s.1))) [
          | inl stands ↦ or_of_right (some w xs) (some w ys)
              (kept_true u x (by.signed (not sign) s.0 s.1) second.lits others (other_sign sign (atoms s.0 (map (substituted w) s.1)) stands) n s.3 k)
          | inr fails ↦ or_of_left (some w xs) (some w ys) (kept_true t v (by.signed sign s.0 s.1) first.lits taken fails m s.2 h)
        ]

  -- ---- by the terms that are named

  pub subsumes_true : (terms : List Term) (target clause : Clause) (picks : List ℕ) (t : ℕ → Term) → length terms ≡ target.vars → IsNumbered clause
      → Subsumes t target.lits clause.lits picks → Sat (value_in (map (ground terms) (closed_terms target.vars clause.vars t))) clause.lits → Sat (value_in terms) target.lits
  subsumes_true terms target clause picks t long n s h =
      let v = value_in (map (ground terms) (closed_terms target.vars clause.vars t)) in
      let to = in_terms terms (closed target.vars) (value_in terms) (closed_value terms target.vars long) clause.vars t in
      subsumed (value_in terms) t v target.lits clause.lits picks (literals_move clause.vars (value_in terms) t v to clause.lits n) s h

  pub resolves_true : (terms : List Term) (target first second : Clause) (picks others : List ℕ) (t u : ℕ → Term) → length terms ≡ target.vars → IsNumbered first → IsNumbered second
      → Resolves t u target.lits first.lits second.lits picks others → Sat (value_in (map (ground terms) (closed_terms target.vars first.vars t))) first.lits
      → Sat (value_in (map (ground terms) (closed_terms target.vars second.vars u))) second.lits → Sat (value_in terms) target.lits
  resolves_true terms target first second picks others t u long n k r h g =
      let v = value_in (map (ground terms) (closed_terms target.vars first.vars t)) in
      let x = value_in (map (ground terms) (closed_terms target.vars second.vars u)) in
      let to = in_terms terms (closed target.vars) (value_in terms) (closed_value terms target.vars long) first.vars t in
      let from = in_terms terms (closed target.vars) (value_in terms) (closed_value terms target.vars long) second.vars u in
      resolved (value_in terms) t v u x target.lits first.lits second.lits picks others (literals_move first.vars (value_in terms) t v to first.lits n)
      (literals_move second.vars (value_in terms) u x from second.lits k) r h g

  pub resolvent_true : (terms : List Term) (sign : Bool) (first second : Clause) (taken others : List Bool) (t u : ℕ → Term) (lits : List Literal)
      → length terms ≡ length (quants_of lits) → IsNumbered first → IsNumbered second → AreUnified sign first second taken others t u → IsOnce [] (left_over first second taken others t u) lits
      → Sat (value_in (map (ground terms) (closed_terms_over (quants_of lits) first.vars t))) first.lits
      → Sat (value_in (map (ground terms) (closed_terms_over (quants_of lits) second.vars u))) second.lits → Sat (value_in terms) (clause_over (quants_of lits) lits).lits
  resolvent_true terms sign first second taken others t u lits long n k s once h g =
      let q = quants_of lits in
      let w : ℕ → Term = λ j. value_in terms (place_of q j) in
      let v = value_in (map (ground terms) (closed_terms_over q first.vars t)) in
      let x = value_in (map (ground terms) (closed_terms_over q second.vars u)) in
      let to = in_terms terms (closed_over q) w (over_value terms q long) first.vars t in
      let from = in_terms terms (closed_over q) w (over_value terms q long) second.vars u in
      let all = left_true w sign first second taken others t v u x s (literals_move first.vars w t v to first.lits n) (literals_move second.vars w u x from second.lits k) h g in
      ap (clause_holds atoms) (literals_renamed (value_in terms) (place_of q) lits) ∙ once_true w [] (left_over first second taken others t u) lits once refl all
