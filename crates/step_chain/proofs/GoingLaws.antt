-- In a chain each literal of a middle clause stands in the target or is taken later.
use Rattle.std.proofs.Common.{◌≡◌, ℕ, zero, suc, Bool, true, false, not, List, [], ◌∷◌, ◌++◌, map, length, Some, None, get_or, slice_get, Contains, refl, sym, ap, ◌∙◌, subst, arith, inl, inr, ◌⊎◌}
use Rattle.std.proofs.lemmas.Option.{slice_get-get_or, slice_get_within}
use Rattle.std.specs.Bool.{OnTrue}
use Rattle.std.specs.List.{All}
use Rattle.dk_syntax.specs.declared.Clause.{Clause}
use Rattle.dk_syntax.specs.declared.Literal.{Literal}
use Rattle.dk_syntax.specs.declared.SymKey.{SymKey}
use Rattle.dk_syntax.specs.declared.Term.{Term}
use Rattle.normal_form.specs.ClauseLists.{quants_of}
use Rattle.normal_form.specs.Renaming.{place_of, renamed_literal}
use Rattle.normal_form.specs.declared.ClauseList.{ClauseList}
use Rattle.dk_syntax.specs.Terms.{instance}
use Rattle.step_clause.specs.Candidates.{affirmed, ArePicked, Candidate, denied, IsClause, NoneWorks, resolution, Subsumes, subsumption, Works}
use Rattle.step_clause.specs.Justifications.{AreNumbered}
use Rattle.step_clause.specs.Symbols.{AnyOf}
use Rattle.step_clause.specs.declared.justification.Justification.{Justification}
use Rattle.step_chain.proofs.Items.{same_some}
use Rattle.step_chain.proofs.OnceLaws.{at_contains, contains_left, once_contains}
use Rattle.step_chain.specs.Chains.{alone, IsContinuation, ends, goes}
use Rattle.step_chain.specs.Resolvents.{AreTaken, IsResolvent, kept, Link, signed}
use Rattle.step_chain.specs.Search.{HasContinuation, IsLeastOf}
use Rattle.step_chain.specs.Symbols.{HasOne, IsOf, HasPartner, IsNotFromLast}

-- the literal stands in the list
abbrev IsListed : List Literal → Literal → Type 0
IsListed ls l = (i : ℕ) × (slice_get ls i ≡ Some l)

map_at : {A B : Type 0} (f : A → B) (xs : List A) (k : ℕ) (x : A) → slice_get xs k ≡ Some x → slice_get (map f xs) k ≡ Some (f x)
map_at f [] k x h = absurd (let w : None ≡ Some x = h in cc)
map_at f (y ∷ xs) zero x h = ap Some (ap f (same_some (Some y) y x refl h))
map_at f (y ∷ xs) (suc k) x h = map_at f xs k x h

-- ---- the justification of the target

subsumed : (t : ℕ → Term) (ds cs : List Literal) (picks : List ℕ) (l : Literal) (i : ℕ) → Subsumes t ds cs picks → slice_get cs i ≡ Some l → IsListed ds (instance t l)
subsumed t ds [] picks l i h at = absurd (let w : None ≡ Some l = at in cc)
subsumed t ds (c ∷ cs) [] l i h at = absurd h
subsumed t ds (c ∷ cs) (p ∷ picks) l zero h at = (p, h.0 ∙ ap (λ z. Some (instance t z)) (same_some (Some c) c l refl at))
subsumed t ds (c ∷ cs) (p ∷ picks) l (suc i) h at = subsumed t ds cs picks l i h.1 at

picked : (t : ℕ → Term) (ds : List Literal) (pivot : Literal) (cs : List Literal) (picks : List ℕ) (l : Literal) (i : ℕ) → ArePicked t ds pivot cs picks → slice_get cs i ≡ Some l → IsListed ds (instance t l) ⊎ (instance t l ≡ pivot)
picked t ds pivot [] picks l i h at = absurd (let w : None ≡ Some l = at in cc)
picked t ds pivot (c ∷ cs) [] l i h at = absurd h
picked t ds pivot (c ∷ cs) (p ∷ picks) l zero h at = elim h.0 [
  | inl w ↦ inl (p, w ∙ ap (λ z. Some (instance t z)) (same_some (Some c) c l refl at))
  | inr w ↦ inr (ap (instance t) (sym (same_some (Some c) c l refl at)) ∙ w.0)
]
picked t ds pivot (c ∷ cs) (p ∷ picks) l (suc i) h at = picked t ds pivot cs picks l i h.1 at

-- the literal that is cut
cut_one : (t : ℕ → Term) (ds : List Literal) (pivot : Literal) (cs : List Literal) (picks : List ℕ) → ArePicked t ds pivot cs picks → Contains picks (length ds) → (j : ℕ) × (d : Literal) × (slice_get cs j ≡ Some d) × (instance t d ≡ pivot)
cut_one t ds pivot [] [] h (k, less, is) = absurd (omega (arith, less))
cut_one t ds pivot [] (p ∷ picks) h there = absurd h
cut_one t ds pivot (c ∷ cs) [] h there = absurd h
cut_one t ds pivot (c ∷ cs) (p ∷ picks) h (zero, less, is) = elim h.0 [
  | inl w ↦ absurd (let a = slice_get_within ds p (instance t c) w in omega (arith, a, is))
  | inr w ↦ (zero, c, refl, w.0)
]
cut_one t ds pivot (c ∷ cs) (p ∷ picks) h (suc k, less, is) =
    let w = cut_one t ds pivot cs picks h.1 (k, omega (arith, less), is) in (suc w.0, w.1, w.2, w.3)

mate : (t : ℕ → Term) (ds : List Literal) (l : Literal) → IsListed ds (instance t l) → AnyOf (IsOf l.positive l.pred) ds
mate t ds l w = (w.0, instance t l, w.1, (refl, refl))

module _ (target middle : Clause) (last : ClauseList) (none : NoneWorks target (last ∷ [])) where
  clause_cases : (parent number : ℕ) (c : Clause) → IsClause (alone middle ∷ last ∷ []) parent number c → (c ≡ middle) ⊎ IsClause (last ∷ []) 0 number c
  clause_cases zero zero c (list, row, at, at', is) =
      let l : alone middle ≡ list = same_some (Some (alone middle)) (alone middle) list refl at in
      let r = same_some (slice_get list.rows 0) (record { clause = middle; quants = []; picks = [] }) row (ap (λ x. slice_get x.rows 0) (sym l)) at' in
      inl (sym is ∙ ap (λ x. x.clause) (sym r))
  clause_cases zero (suc number) c (list, row, at, at', is) =
      let l : alone middle ≡ list = same_some (Some (alone middle)) (alone middle) list refl at in
      absurd (let w : None ≡ Some row = ap (λ x. slice_get x.rows (suc number)) l ∙ at' in cc)
  clause_cases (suc zero) number c (list, row, at, at', is) = inr (list, row, at, at', is)
  clause_cases (suc (suc parent)) number c (list, row, at, at', is) = absurd (let w : None ≡ Some list = at in cc)

  -- a clause of the last list has a literal of that sign and symbol
  rival : (number : ℕ) (c : Clause) (u : ℕ → Term) (sign : Bool) (pred : SymKey) (args : List Term) → IsClause (last ∷ []) 0 number c
      → (j : ℕ) × (d : Literal) × (slice_get c.lits j ≡ Some d) × (instance u d ≡ signed sign pred args) → AnyOf (HasOne sign pred) (last ∷ [])
  rival number c u sign pred args (list, row, at, at', is) (j, d, here, e) =
      (0, list, at, (number, row, at', (j, d, ap (λ z. slice_get z.lits j) is ∙ here, (ap (λ z. z.positive) e, ap (λ z. z.pred) e))))

  of_signed : (r : Literal → Type 0) (l m : Literal) → l ≡ m → r m → r l
  of_signed r l m e h = subst r (sym e) h

  rivals_of : (t : ℕ → Term) (l : Literal) (sign : Bool) (pred : SymKey) (args : List Term) → instance t l ≡ signed sign pred args → AnyOf (HasOne (not sign) pred) (last ∷ []) → HasPartner target (last ∷ []) l
  rivals_of t l sign pred args e h =
      inr (subst (λ z. AnyOf (HasOne (not z) l.pred) (last ∷ [])) (sym (ap (λ z. z.positive) e)) (subst (λ z. AnyOf (HasOne (not sign) z) (last ∷ [])) (sym (ap (λ z. z.pred) e)) h))

  from_last : (candidate : Candidate) → Works target (alone middle ∷ last ∷ []) candidate → (l : Literal) (i : ℕ) → slice_get middle.lits i ≡ Some l → HasPartner target (last ∷ []) l
  from_last (subsumption parent number picks) (clause, is, (t, h)) l i at = elim (clause_cases parent number clause is) [
    | inl e ↦ inl (mate t target.lits l (subsumed t target.lits middle.lits picks l i (subst (λ z. Subsumes t target.lits z.lits picks) e h) at))
    | inr e ↦ absurd (none (subsumption 0 number picks) (clause, e, (t, h)))
  ]
  from_last (resolution parent number other other_number picks other_picks) (first, second, is, is', (t, u, (pred, args, h, h'))) l i at =
      elim (clause_cases parent number first is) [
        | inl e ↦ elim (picked t target.lits (affirmed pred args) middle.lits picks l i (subst (λ z. ArePicked t target.lits (affirmed pred args) z.lits picks) e h.0) at) [
          | inl w ↦ inl (mate t target.lits l w)
          | inr w ↦ elim (clause_cases other other_number second is') [
            | inl e' ↦ elim (picked u target.lits (denied pred args) middle.lits other_picks l i (subst (λ z. ArePicked u target.lits (denied pred args) z.lits other_picks) e' h'.0) at) [
              | inl v ↦ inl (mate u target.lits l v)
              | inr v ↦ absurd (let x : true ≡ false = sym (ap (λ z. z.positive) w) ∙ ap (λ z. z.positive) v in cc)
            ]
            | inr e' ↦ rivals_of t l true pred args w (rival other_number second u false pred args e' (cut_one u target.lits (denied pred args) second.lits other_picks h'.0 h'.1))
          ]
        ]
        | inr e ↦ elim (clause_cases other other_number second is') [
          | inl e' ↦ elim (picked u target.lits (denied pred args) middle.lits other_picks l i (subst (λ z. ArePicked u target.lits (denied pred args) z.lits other_picks) e' h'.0) at) [
            | inl v ↦ inl (mate u target.lits l v)
            | inr v ↦ rivals_of u l false pred args v (rival number first t true pred args e (cut_one t target.lits (affirmed pred args) first.lits picks h.0 h.1))
          ]
          | inr e' ↦ absurd (none (resolution 0 number 0 other_number picks other_picks) (first, second, e, e', (t, u, (pred, args, h, h'))))
        ]
      ]

-- ---- a resolvent

taken_or_kept : (t : ℕ → Term) (pivot : Literal) (ls : List Literal) (taken : List Bool) (l : Literal) (i : ℕ) → AreTaken t pivot ls taken → slice_get ls i ≡ Some l → (instance t l ≡ pivot) ⊎ Contains (map (instance t) (kept ls taken)) (instance t l)
taken_or_kept t pivot [] taken l i h at = absurd (let w : None ≡ Some l = at in cc)
taken_or_kept t pivot (c ∷ ls) [] l i h at = absurd h
taken_or_kept t pivot (c ∷ ls) (true ∷ taken) l zero h at = inl (ap (instance t) (sym (same_some (Some c) c l refl at)) ∙ h.0)
taken_or_kept t pivot (c ∷ ls) (false ∷ taken) l zero h at = inr (zero, omega arith, ap (instance t) (same_some (Some c) c l refl at))
taken_or_kept t pivot (c ∷ ls) (true ∷ taken) l (suc i) h at = taken_or_kept t pivot ls taken l i h.1 at
taken_or_kept t pivot (c ∷ ls) (false ∷ taken) l (suc i) h at = elim (taken_or_kept t pivot ls taken l i h at) [
  | inl w ↦ inl w
  | inr w ↦ inr (suc w.0, omega (arith, w.1), w.2)
]

one_taken : (t : ℕ → Term) (pivot : Literal) (ls : List Literal) (taken : List Bool) → AreTaken t pivot ls taken → Contains taken true → (j : ℕ) × (d : Literal) × (slice_get ls j ≡ Some d) × (instance t d ≡ pivot)
one_taken t pivot [] [] h (k, less, is) = absurd (omega (arith, less))
one_taken t pivot [] (b ∷ taken) h there = absurd h
one_taken t pivot (c ∷ ls) [] h there = absurd h
one_taken t pivot (c ∷ ls) (true ∷ taken) h (zero, less, is) = (zero, c, refl, h.0)
one_taken t pivot (c ∷ ls) (false ∷ taken) h (zero, less, is) = absurd (let w : false ≡ true = is in cc)
one_taken t pivot (c ∷ ls) (true ∷ taken) h (suc k, less, is) = let w = one_taken t pivot ls taken h.1 (k, omega (arith, less), is) in (suc w.0, w.1, w.2, w.3)
one_taken t pivot (c ∷ ls) (false ∷ taken) h (suc k, less, is) = let w = one_taken t pivot ls taken h (k, omega (arith, less), is) in (suc w.0, w.1, w.2, w.3)

in_resolvent : (number : ℕ) (first second : Clause) (link : Link) (resolvent : Clause) (step : Justification) → IsResolvent number first second link resolvent step → (l : Literal) (i : ℕ) → slice_get first.lits i ≡ Some l
    → AnyOf (IsOf (not l.positive) l.pred) second.lits ⊎ ((j : ℕ) × (m : Literal) × (slice_get resolvent.lits j ≡ Some m) × IsOf l.positive l.pred m)
in_resolvent number first second link resolvent step is l i at =
    let g = is.general.0 in
    let pred = g.0 in
    let args = g.1 in
    elim (taken_or_kept is.t (signed link.sign pred args) first.lits link.taken l i g.2 at) [
      | inl e ↦
          let d = one_taken is.u (signed (not link.sign) pred args) second.lits link.others g.3 g.5 in
          inl (d.0, d.1, d.2, (ap (λ z. z.positive) d.3 ∙ ap not (sym (ap (λ z. z.positive) e)), ap (λ z. z.pred) d.3 ∙ sym (ap (λ z. z.pred) e)))
      | inr w ↦
          let lefts = map (instance is.t) (kept first.lits link.taken) in
          let rights = map (instance is.u) (kept second.lits link.others) in
          let there = once_contains is.once (instance is.t l) (contains_left lefts rights (instance is.t l) w) in
          let k = at_contains is.lits (instance is.t l) there in
          let p = place_of (quants_of is.lits) in
          inr (
            k.0,
            renamed_literal p (instance is.t l),
            ap (λ z. slice_get z.lits k.0) is.clause ∙ map_at (renamed_literal p) is.lits k.0 (instance is.t l) k.1,
            (refl, refl),
          )
    ]

-- ---- chains

pub needs_later : (target : Clause) (rest : List ClauseList) (next : ClauseList) (later : List ClauseList) → rest ≡ next ∷ later → IsNotFromLast target rest → IsNotFromLast target later
needs_later target rest next later e h front last is = h (next ∷ front) last (e ∙ ap (λ z. next ∷ z) is)

later_goes : (target : Clause) (next : ClauseList) (rest : List ClauseList) (l m : Literal) → IsOf l.positive l.pred m → HasPartner target rest m → HasPartner target (next ∷ rest) l
later_goes target next rest l m is (inl (k, d, at, (s, p))) = inl (k, d, at, (s ∙ is.0, p ∙ is.1))
later_goes target next rest l m is (inr (k, list, at, (n, row, at', (j, d, at'', (s, p))))) = inr (suc k, list, at, (n, row, at', (j, d, at'', (s ∙ ap not is.0, p ∙ is.1))))

module _ (target : Clause) where
  each_goes : {number : ℕ} {middle : Clause} {rest : List ClauseList} {links : List Link} {mids : List Clause} {steps : List Justification} → IsContinuation target number middle rest links mids steps
      → IsNotFromLast target rest → (l : Literal) (i : ℕ) → slice_get middle.lits i ≡ Some l → HasPartner target rest l
  each_goes (ends number middle last step is) needs l i at = from_last target middle last (needs [] last refl) _ is.0.0 l i at
  each_goes (goes number middle next rest link links row resolvent mids step steps there is more) needs l i at =
      elim (in_resolvent number middle row.clause link resolvent step is l i at) [
        | inl w ↦ inr (0, next, refl, (link.number, row, there, w))
        | inr w ↦ later_goes target next rest l w.1 w.3 (each_goes more (needs_later target (next ∷ rest) next rest refl needs) w.1 w.0 w.2)
      ]

  pub hopeless : (number : ℕ) (middle : Clause) (rest : List ClauseList) (needs result : Bool) → (needs ≡ true → IsNotFromLast target rest) → OnTrue result ((needs ≡ true) × ((All (HasPartner target rest) middle.lits) → ⊥)) → result ≡ true
      → IsLeastOf (HasContinuation target number middle rest) None
  hopeless number middle rest needs false does says is = absurd (let w : false ≡ true = is in cc)
  hopeless number middle rest needs true does says is = λ key chain h.
      says.1 (λ k d less. each_goes h.2 (does says.0) (get_or middle.lits k d) k (slice_get-get_or middle.lits k d less))

-- ---- the last list alone

last_one : (xs ys : List ClauseList) (x y : ClauseList) → xs ++ x ∷ [] ≡ ys ++ y ∷ [] → x ≡ y
last_one [] [] x y h = cc
last_one [] (b ∷ []) x y h = cc
last_one [] (b ∷ c ∷ ys) x y h = cc
last_one (a ∷ []) [] x y h = cc
last_one (a ∷ c ∷ xs) [] x y h = cc
last_one (a ∷ xs) (b ∷ ys) x y h = last_one xs ys x y (let tail : xs ++ x ∷ [] ≡ ys ++ y ∷ [] = cc in tail)

pub needs_it : (target : Clause) (rest front : List ClauseList) (last : ClauseList) → rest ≡ front ++ last ∷ [] → NoneWorks target (last ∷ []) → IsNotFromLast target rest
needs_it target rest front last e none front' last' e' = subst (λ z. NoneWorks target (z ∷ [])) (last_one front front' last last' (sym e ∙ e')) none

last_of : (front : List ClauseList) (last : ClauseList) → AreNumbered (front ++ last ∷ []) → AreNumbered (last ∷ [])
last_of [] last h = h
last_of (x ∷ front) last h = last_of front last (λ k d less. h (suc k) d (omega arith))

pub last_numbered : (rest front : List ClauseList) (last : ClauseList) → rest ≡ front ++ last ∷ [] → AreNumbered rest → AreNumbered (last ∷ [])
last_numbered rest front last e h = last_of front last (subst AreNumbered e h)
