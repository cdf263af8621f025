-- Ground clauses that a justification or an exact resolvent tells, literal by literal.
use Rattle.std.proofs.Common.{◌≡◌, ◌<◌, ℕ, zero, suc, Bool, true, false, not, List, [], ◌∷◌, ◌++◌, map, length, Some, slice_get, slice_index_or, Contains, arith, sym, ap, ◌∙◌, subst, inl, inr}
use Rattle.std.proofs.lemmas.List.{length-map}
use Rattle.dk_syntax.proofs.ListLaws.{entry_end, ForEach}
use Rattle.dk_syntax.specs.Lists.{Each, Entry, each_cons, each_nil, entry_here, entry_later}
use Rattle.dk_syntax.specs.Terms.{instance, substituted}
use Rattle.dk_syntax.specs.declared.clause.Clause.{Clause}
use Rattle.dk_syntax.specs.declared.clause.Literal.{Literal}
use Rattle.dk_syntax.specs.declared.symbol.SymKey.{SymKey}
use Rattle.dk_syntax.specs.declared.term.Term.{Term}
use Rattle.normal_form.specs.ClauseLists.{quants_of}
use Rattle.normal_form.specs.Renaming.{place_of}
use Rattle.normal_form.specs.declared.clause_list.ClauseList.{ClauseList}
use Rattle.step_chain.specs.Resolvents.{ArePicks, AreTaken, IsResolvent, Link, resolution_by, signed}
use Rattle.step_clause.specs.Candidates.{affirmed, ArePicked, Cuts, denied, IsClause, IsPicked, Subsumes}
use Rattle.step_clause.specs.Justifications.{IsJustification, IsNumbered}
use Rattle.step_clause.specs.declared.justification.Justification.{Justification}
use Rattle.step_clause.specs.declared.justification.Justification.TheVariants.{Resolve, Subsume}
use Rattle.ground_instances.specs.Keys.{Key}
use Rattle.ground_instances.specs.Needs.{ground, named_by, value_in}
use Rattle.plan_typing.proofs.LeafLists.{entry_got}
use Rattle.plan_typing.proofs.GroundLiterals.{IsMoved, parent_moved, parent_moved_over, resolvent_literals}

-- ---- what a justification says of ground clauses

-- each literal of the parent is the target's at its pick
abbrev pub ChosenFrom : List Literal → List Literal → List ℕ → Type 0
ChosenFrom lits parent picks = Each (λ l k. Entry lits k l) parent picks

-- or it is the pivot, which stands after the target's; the pivot is picked somewhere
abbrev pub CutFrom : List Literal → Literal → List Literal → List ℕ → Type 0
CutFrom lits pivot parent picks = ChosenFrom (lits ++ pivot ∷ []) parent picks × ((place : ℕ) × Entry picks place (length lits))

-- the ground clause follows from those of the parents, the positive one first
pub data Explained (lits : List Literal) : Justification → List (List Literal) → Type 0 where
  subsumed : (parent number : ℕ) (picks : List ℕ) (ts : List Term) (m : List Literal) → ChosenFrom lits m picks
      → Explained lits (Subsume parent number picks ts) (m ∷ [])
  resolved : (parent number other other_number : ℕ) (picks others : List ℕ) (ts us : List Term) (pred : SymKey) (args : List Term) (m n : List Literal)
      → CutFrom lits (affirmed pred args) m picks → CutFrom lits (denied pred args) n others
      → Explained lits (Resolve parent number other other_number picks others ts us) (m ∷ n ∷ [])

-- ---- entries

pub entry_mapped : {A B : Type 0} (f : A → B) {l : List A} {place : ℕ} {a : A} → Entry l place a → Entry (map f l) place (f a)
entry_mapped f (entry_here a l) = entry_here (f a) (map f l)
entry_mapped f (entry_later b i) = entry_later (f b) (entry_mapped f i)

pub entry_before : {A : Type 0} {l : List A} {place : ℕ} {a : A} (others : List A) → Entry l place a → Entry (l ++ others) place a
entry_before others (entry_here a l) = entry_here a (l ++ others)
entry_before others (entry_later b i) = entry_later b (entry_before others i)

entry_index : {A : Type 0} (xs : List A) (x : A) (k : ℕ) → k < length xs → slice_index_or xs k x ≡ x → Entry xs k x
entry_index [] x k less e = absurd (omega (arith, less))
entry_index (y ∷ xs) x zero less e = subst (λ z. Entry (y ∷ xs) zero z) e (entry_here y xs)
entry_index (y ∷ xs) x (suc k) less e = entry_later y (entry_index xs x k (omega (arith, less)) e)

entry_contained : {A : Type 0} (xs : List A) (x : A) → Contains xs x → (k : ℕ) × Entry xs k x
entry_contained xs x (k, less, e) = (k, entry_index xs x k less e)

-- ---- from the picks

module _ (w : ℕ → Term) (target : List Literal) where
  abbrev ground_lits : List Literal
  ground_lits = map (instance w) target

  here_at : (t v : ℕ → Term) (l : Literal) (pick : ℕ) → IsMoved w t v l → slice_get target pick ≡ Some (instance t l) → Entry ground_lits pick (instance v l)
  here_at t v l pick moved at = subst (λ x. Entry ground_lits pick x) (sym moved) (entry_mapped (instance w) (entry_got target pick (instance t l) at))

  pub chosen_subsumed : (t v : ℕ → Term) (clause : List Literal) (picks : List ℕ) → ForEach (IsMoved w t v) clause → Subsumes t target clause picks
      → ChosenFrom ground_lits (map (instance v) clause) picks
  chosen_subsumed t v [] [] m h = each_nil
  chosen_subsumed t v [] (pick ∷ picks) m h = absurd h
  chosen_subsumed t v (l ∷ clause) [] m h = absurd h
  chosen_subsumed t v (l ∷ clause) (pick ∷ picks) m h = each_cons (here_at t v l pick m.0 h.0) (chosen_subsumed t v clause picks m.1 h.1)

  module _ (pivot : Literal) where
    abbrev with_pivot : List Literal
    with_pivot = ground_lits ++ instance w pivot ∷ []

    -- the pivot stands after the target's literals
    at_end : (t v : ℕ → Term) (l : Literal) (pick : ℕ) → IsMoved w t v l → instance t l ≡ pivot → pick ≡ length target → Entry with_pivot pick (instance v l)
    at_end t v l pick moved same at =
        let long : length ground_lits ≡ pick = length-map target (instance w) ∙ sym at in
        let is : instance w pivot ≡ instance v l = sym (moved ∙ ap (instance w) same) in
        subst (λ x. Entry with_pivot pick x) is (subst (λ p. Entry with_pivot p (instance w pivot)) long (entry_end ground_lits))

    one_picked : (t v : ℕ → Term) (l : Literal) (pick : ℕ) → IsMoved w t v l → IsPicked t target pivot l pick → Entry with_pivot pick (instance v l)
    one_picked t v l pick moved (inl at) = entry_before (instance w pivot ∷ []) (here_at t v l pick moved at)
    one_picked t v l pick moved (inr (same, at)) = at_end t v l pick moved same at

    chosen_picked : (t v : ℕ → Term) (clause : List Literal) (picks : List ℕ) → ForEach (IsMoved w t v) clause → ArePicked t target pivot clause picks
        → ChosenFrom with_pivot (map (instance v) clause) picks
    chosen_picked t v [] [] m h = each_nil
    chosen_picked t v [] (pick ∷ picks) m h = absurd h
    chosen_picked t v (l ∷ clause) [] m h = absurd h
    chosen_picked t v (l ∷ clause) (pick ∷ picks) m h = each_cons (one_picked t v l pick m.0 h.0) (chosen_picked t v clause picks m.1 h.1)

    pub cut_picked : (t v : ℕ → Term) (clause : List Literal) (picks : List ℕ) → ForEach (IsMoved w t v) clause → Cuts t target pivot clause picks
        → CutFrom ground_lits (instance w pivot) (map (instance v) clause) picks
    cut_picked t v clause picks m (are, has) =
        let found = entry_contained picks (length target) has in
        (chosen_picked t v clause picks m are, (found.0, subst (λ n. Entry picks found.0 n) (sym (length-map target (instance w))) found.1))

    -- the same of the literals that are taken for an exact resolvent
    chosen_taken : (t v : ℕ → Term) (clause : List Literal) (taken : List Bool) (picks : List ℕ) → ForEach (IsMoved w t v) clause → AreTaken t pivot clause taken
        → ArePicks target t clause taken picks → ChosenFrom with_pivot (map (instance v) clause) picks
    chosen_taken t v [] taken [] m h p = each_nil
    chosen_taken t v [] taken (pick ∷ picks) m h p = absurd p
    chosen_taken t v (l ∷ clause) taken [] m h p = absurd p
    chosen_taken t v (l ∷ clause) [] (pick ∷ picks) m h p = absurd p
    chosen_taken t v (l ∷ clause) (true ∷ taken) (pick ∷ picks) m h p = each_cons (at_end t v l pick m.0 h.0 p.0) (chosen_taken t v clause taken picks m.1 h.1 p.1)
    chosen_taken t v (l ∷ clause) (false ∷ taken) (pick ∷ picks) m h p =
        each_cons (entry_before (instance w pivot ∷ []) (here_at t v l pick m.0 p.0)) (chosen_taken t v clause taken picks m.1 h p.1)

    pick_taken : (t : ℕ → Term) (clause : List Literal) (taken : List Bool) (picks : List ℕ) → AreTaken t pivot clause taken → ArePicks target t clause taken picks
        → (place : ℕ) → Entry taken place true → Entry picks place (length target)
    pick_taken t [] [] picks h p place i = elim i [ ]
    pick_taken t [] (b ∷ taken) picks h p place i = absurd h
    pick_taken t (l ∷ clause) taken [] h p place i = absurd p
    pick_taken t (l ∷ clause) [] (pick ∷ picks) h p place i = absurd p
    pick_taken t (l ∷ clause) (true ∷ taken) (pick ∷ picks) h p zero i = subst (λ n. Entry (pick ∷ picks) zero n) p.0 (entry_here pick picks)
    pick_taken t (l ∷ clause) (false ∷ taken) (pick ∷ picks) h p zero i = elim i [ ]
    pick_taken t (l ∷ clause) (true ∷ taken) (pick ∷ picks) h p (suc place) (entry_later _ i) = entry_later pick (pick_taken t clause taken picks h.1 p.1 place i)
    pick_taken t (l ∷ clause) (false ∷ taken) (pick ∷ picks) h p (suc place) (entry_later _ i) = entry_later pick (pick_taken t clause taken picks h p.1 place i)

    pub cut_taken : (t v : ℕ → Term) (clause : List Literal) (taken : List Bool) (picks : List ℕ) → ForEach (IsMoved w t v) clause → AreTaken t pivot clause taken
        → ArePicks target t clause taken picks → Contains taken true → CutFrom ground_lits (instance w pivot) (map (instance v) clause) picks
    cut_taken t v clause taken picks m h p has =
        let found = entry_contained taken true has in
        let there = pick_taken t clause taken picks h p found.0 found.1 in
        (chosen_taken t v clause taken picks m h p, (found.0, subst (λ n. Entry picks found.0 n) (sym (length-map target (instance w))) there))

-- ---- from justifications

module _ (Is : Key → List Literal → Type 0) where
  -- the ground clauses with this name are instances of that clause
  abbrev pub IsNamed : (List Term → Key) → Clause → Type 0
  IsNamed at clause = (ts : List Term) (m : List Literal) → Is (at ts) m → m ≡ map (instance (value_in ts)) clause.lits

  -- the clauses of the lists have these names, and their variables are below their numbers of variables
  abbrev pub AreNamed : (ℕ → ℕ → List Term → Key) → List ClauseList → Type 0
  AreNamed at lists = (k c : ℕ) (clause : Clause) → IsClause lists k c clause → IsNumbered clause × IsNamed (at k c) clause

  pub justified : (at : ℕ → ℕ → List Term → Key) (terms : List Term) (target : Clause) (lists : List ClauseList) (step : Justification) (parents : List (List Literal))
      → length terms ≡ target.vars → AreNamed at lists → IsJustification target lists (Some step) → Each Is (named_by at terms step) parents
      → Explained (map (instance (value_in terms)) target.lits) step parents
  justified at terms target lists (Subsume parent number picks ts) _ long named (least, (clause, there, (t, (works, further), e))) (each_cons {b = m} h each_nil) =
      let n = named parent number clause there in
      let w = value_in terms in
      let moved = parent_moved terms target.vars clause t long n.0 in
      let is = n.1 (map (ground terms) ts) m h ∙ ap (λ x. map (instance (value_in (map (ground terms) x))) clause.lits) e in
      subsumed parent number picks ts m (subst (λ x. ChosenFrom (map (instance w) target.lits) x picks) (sym is) (chosen_subsumed w target.lits t _ clause.lits picks moved works))
  justified at terms target lists (Resolve p c q d picks others ts us) _ long named (least, (first, second, there, here, (t, u, (works, further), e, f)))
      (each_cons {b = m} h (each_cons {b = n} g each_nil)) =
      let one = named p c first there in
      let two = named q d second here in
      let w = value_in terms in
      let moved = parent_moved terms target.vars first t long one.0 in
      let moved' = parent_moved terms target.vars second u long two.0 in
      let is = one.1 (map (ground terms) ts) m h ∙ ap (λ x. map (instance (value_in (map (ground terms) x))) first.lits) e in
      let is' = two.1 (map (ground terms) us) n g ∙ ap (λ x. map (instance (value_in (map (ground terms) x))) second.lits) f in
      let pred = works.0 in
      let args = map (substituted w) works.1 in
      resolved p c q d picks others ts us pred args m n
      (subst (λ x. CutFrom (map (instance w) target.lits) (affirmed pred args) x picks) (sym is) (cut_picked w target.lits (affirmed pred works.1) t _ first.lits picks moved works.2))
      (subst (λ x. CutFrom (map (instance w) target.lits) (denied pred args) x others) (sym is') (cut_picked w target.lits (denied pred works.1) u _ second.lits others moved' works.3))

  -- ---- from exact resolvents

  -- both in the order of the sign
  by_sign : (at : ℕ → ℕ → List Term → Key) (terms : List Term) (lits : List Literal) (sign : Bool) (n m : ℕ) (ps qs : List ℕ) (ts us : List Term) (pred : SymKey) (args : List Term)
      (parents : List (List Literal)) → Each Is (named_by at terms (resolution_by sign n m ps qs ts us)) parents
      → ((x : List Literal) → Is (at 0 n (map (ground terms) ts)) x → CutFrom lits (signed sign pred args) x ps)
      → ((x : List Literal) → Is (at 1 m (map (ground terms) us)) x → CutFrom lits (signed (not sign) pred args) x qs)
      → Explained lits (resolution_by sign n m ps qs ts us) parents
  by_sign at terms lits true n m ps qs ts us pred args _ (each_cons {b = x} h (each_cons {b = y} g each_nil)) f k = resolved 0 n 1 m ps qs ts us pred args x y (f x h) (k y g)
  by_sign at terms lits false n m ps qs ts us pred args _ (each_cons {b = x} h (each_cons {b = y} g each_nil)) f k = resolved 1 m 0 n qs ps us ts pred args x y (k x h) (f y g)

  pub resolvent : (at : ℕ → ℕ → List Term → Key) (terms : List Term) (n : ℕ) (first second : Clause) (link : Link) (mid : Clause) (step : Justification) (parents : List (List Literal))
      → length terms ≡ mid.vars → IsNumbered first → IsNumbered second → IsNamed (at 0 n) first → IsNamed (at 1 link.number) second
      → IsResolvent n first second link mid step → Each Is (named_by at terms step) parents → Explained (map (instance (value_in terms)) mid.lits) step parents
  resolvent at terms n first second link mid step parents long one two h g r all =
      let q = quants_of r.lits in
      let w : ℕ → Term = λ k. value_in terms (place_of q k) in
      let size : length terms ≡ length q = long ∙ ap (λ (c : Clause). c.vars) r.clause in
      let moved = parent_moved_over terms q first r.t size one in
      let moved' = parent_moved_over terms q second r.u size two in
      let is : map (instance (value_in terms)) mid.lits ≡ map (instance w) r.lits =
      ap (λ (c : Clause). map (instance (value_in terms)) c.lits) r.clause ∙ resolvent_literals terms q r.lits in
      let unified = r.general.0 in
      let pred = unified.0 in
      let args = map (substituted w) unified.1 in
      subst (λ x. Explained x step parents) (sym is)
      (subst (λ x. Explained (map (instance w) r.lits) x parents) (sym r.justified)
      (by_sign at terms (map (instance w) r.lits) link.sign n link.number r.picks r.other_picks _ _ pred args parents (subst (λ x. Each Is (named_by at terms x) parents) r.justified all)
      (λ x k. subst (λ y. CutFrom (map (instance w) r.lits) (signed link.sign pred args) y r.picks) (sym (h _ x k))
      (cut_taken w r.lits (signed link.sign pred unified.1) r.t _ first.lits link.taken r.picks moved unified.2 r.picked unified.4))
      (λ x k. subst (λ y. CutFrom (map (instance w) r.lits) (signed (not link.sign) pred args) y r.other_picks) (sym (g _ x k))
      (cut_taken w r.lits (signed (not link.sign) pred unified.1) r.u _ second.lits link.others r.other_picks moved' unified.3 r.other_picked unified.5))))
