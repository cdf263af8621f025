-- A worked row: the least chain from p, ~p | q and ~q to the empty clause.
use Rattle.std.proofs.Common.{◌≡◌, ℕ, zero, suc, Bool, true, false, not, List, [], ◌∷◌, ◌++◌, map, Some, slice_get, Contains, refl, sym, ap, ◌∙◌, subst, arith, codes, ◌⊎◌, inl, inr}
use Rattle.dk_syntax.specs.Symbols.{joined}
use Rattle.dk_syntax.specs.declared.Clause.{Clause}
use Rattle.dk_syntax.specs.declared.Kind.TheVariants.{Predicate}
use Rattle.dk_syntax.specs.declared.Literal.{Literal}
use Rattle.dk_syntax.specs.declared.SymKey.{SymKey}
use Rattle.dk_syntax.specs.declared.Term.{Term}
use Rattle.dk_syntax.specs.declared.Term.TheVariants.{Var}
use Rattle.normal_form.specs.declared.ClauseList.{ClauseList}
use Rattle.normal_form.specs.declared.ClauseRow.{ClauseRow}
use Rattle.dk_syntax.specs.Terms.{instance}
use Rattle.step_clause.specs.Candidates.{affirmed, Before, Candidate, Cuts, denied, IsClause, IsListBefore, IsPicked, resolution, Subsumes, subsumption, Works}
use Rattle.step_clause.specs.Justifications.{HasTerms, IsJustification}
use Rattle.step_clause.specs.declared.justification.Justification.{Justification}
use Rattle.step_clause.specs.declared.justification.Justification.TheVariants.{Resolve}
use Rattle.step_chain.proofs.Items.{same_some, some_or_none}
use Rattle.step_chain.specs.Chains.{alone, bit, IsContinuation, ends, goes, IsChain, IsLeastChain, link_key, Way, way_key}
use Rattle.step_chain.specs.Resolvents.{AreTaken, AreUnified, IsResolvent, Link, new, none, signed}
use Rattle.step_chain.specs.declared.chain.Chain.{Chain}

-- ---- from p, ~p | q and ~q follows the empty clause

abbrev pub p : SymKey
p = record { name = codes "p"; arity = 0; kind = Predicate }

abbrev pub q : SymKey
q = record { name = codes "q"; arity = 0; kind = Predicate }

abbrev pub atom : Bool → SymKey → Literal
atom sign symbol = record { positive = sign; pred = symbol; args = [] }

abbrev pub ground_clause : List Literal → Clause
ground_clause lits = record { vars = 0; lits = lits }

abbrev pub listed : List Literal → ClauseList
listed lits = alone (ground_clause lits)

abbrev pub row : List Literal → ClauseRow
row lits = record { clause = ground_clause lits; quants = []; picks = [] }

abbrev pub link : Link
link = record { number = 0; sign = true; taken = true ∷ []; others = true ∷ false ∷ [] }

abbrev pub first_step : Justification
first_step = Resolve 0 0 1 0 (1 ∷ []) (1 ∷ 0 ∷ []) [] []

abbrev pub last_step : Justification
last_step = Resolve 0 0 1 0 (0 ∷ []) (0 ∷ []) [] []

abbrev pub chain : Chain
chain = record { mids = ground_clause (atom true q ∷ []) ∷ []; steps = first_step ∷ last_step ∷ [] }

nothing_contains : {X : Type 0} (x : X) → Contains [] x → ⊥
nothing_contains x h = omega (arith, h.1)

resolvent : IsResolvent 0 (ground_clause (atom true p ∷ [])) (ground_clause (atom false p ∷ atom true q ∷ [])) link (ground_clause (atom true q ∷ [])) first_step
resolvent = record {
  t = Var;
  u = Var;
  general = ((p, [], (refl, tt), (refl, tt), (0, omega arith, refl), (0, omega arith, refl)), λ u u' h. (Var, (λ k less. absurd (omega (arith, less))), (λ j less. absurd (omega (arith, less))), (λ j less. absurd (omega (arith, less)))));
  lits = atom true q ∷ [];
  once = new [] (atom true q) [] [] (nothing_contains (atom true q)) (none (atom true q ∷ []));
  clause = refl;
  picks = 1 ∷ [];
  other_picks = 1 ∷ 0 ∷ [];
  picked = (refl, tt);
  other_picked = (refl, (refl, tt));
  justified = refl;
}

-- ---- its last justification, which is the least

abbrev pub target : Clause
target = ground_clause []

abbrev pub end : ClauseList
end = listed (atom true q ∷ [])

abbrev pub last_list : ClauseList
last_list = listed (atom false q ∷ [])

not_both_signs : (x y : SymKey) (args other : List Term) → affirmed x args ≡ denied y other → ⊥
not_both_signs x y args other h = let e : true ≡ false = ap (λ l. l.positive) h in cc

-- nothing is picked in an empty target
no_literal : (l : Literal) (k : ℕ) → slice_get [] k ≡ Some l → ⊥
no_literal l k h = cc

-- nothing but the pivot can be picked
only_pivot : (t : ℕ → Term) (pivot l : Literal) (k : ℕ) → IsPicked t [] pivot l k → instance t l ≡ pivot
only_pivot t pivot l k (inl h) = absurd (no_literal (instance t l) k h)
only_pivot t pivot l k (inr h) = h.0

-- the clauses of the two lists
clause_cases : (parent number : ℕ) (c : Clause) → IsClause (end ∷ last_list ∷ []) parent number c
    → ((parent ≡ 0) × (number ≡ 0) × (c ≡ ground_clause (atom true q ∷ []))) ⊎ ((parent ≡ 1) × (number ≡ 0) × (c ≡ ground_clause (atom false q ∷ [])))
clause_cases zero zero c (list, one, at, is, h) =
    let l : end ≡ list = cc in
    let r : row (atom true q ∷ []) ≡ one = same_some (slice_get list.rows 0) (row (atom true q ∷ [])) one (ap (λ x. slice_get x.rows 0) (sym l)) is in
    inl (refl, refl, sym h ∙ ap (λ x. x.clause) (sym r))
clause_cases zero (suc number) c (list, one, at, is, h) =
    let l : end ≡ list = cc in absurd (some_or_none (slice_get end.rows (suc number)) one (subst (λ x. slice_get x.rows (suc number) ≡ Some one) (sym l) is) refl)
clause_cases (suc zero) zero c (list, one, at, is, h) =
    let l : last_list ≡ list = cc in
    let r : row (atom false q ∷ []) ≡ one = same_some (slice_get list.rows 0) (row (atom false q ∷ [])) one (ap (λ x. slice_get x.rows 0) (sym l)) is in
    inr (refl, refl, sym h ∙ ap (λ x. x.clause) (sym r))
clause_cases (suc zero) (suc number) c (list, one, at, is, h) =
    let l : last_list ≡ list = cc in absurd (some_or_none (slice_get last_list.rows (suc number)) one (subst (λ x. slice_get x.rows (suc number) ≡ Some one) (sym l) is) refl)
clause_cases (suc (suc parent)) number c (list, one, at, is, h) = cc

one_not_subsumed : (t : ℕ → Term) (l : Literal) (picks : List ℕ) → Subsumes t [] (l ∷ []) picks → ⊥
one_not_subsumed t l [] h = h
one_not_subsumed t l (k ∷ picks) h = no_literal (instance t l) k h.0

-- a clause of one literal is cut at it
cut_one : (t : ℕ → Term) (pivot l : Literal) (picks : List ℕ) → Cuts t [] pivot (l ∷ []) picks → instance t l ≡ pivot
cut_one t pivot l [] h = absurd h.0
cut_one t pivot l (k ∷ picks) h = only_pivot t pivot l k h.0.0

not_below : (ns : List ℕ) → IsListBefore ns (0 ∷ 0 ∷ []) → ⊥
not_below [] h = h
not_below (n ∷ ns) (inl h) = omega (arith, h)
not_below (n ∷ []) (inr h) = h.1
not_below (n ∷ m ∷ ns) (inr (e, inl h)) = omega (arith, h)
not_below (n ∷ m ∷ []) (inr (e, inr h)) = h.1
not_below (n ∷ m ∷ k ∷ ns) (inr (e, inr h)) = h.1

none_before : (other : Candidate) → Works target (end ∷ last_list ∷ []) other → Before other (resolution 0 0 1 0 (0 ∷ []) (0 ∷ [])) → ⊥
none_before (subsumption parent number picks) (c, at, w) before = elim (clause_cases parent number c at) [
  | inl e ↦ one_not_subsumed w.0 (atom true q) picks (subst (λ x. Subsumes w.0 [] x.lits picks) e.2 w.1)
  | inr e ↦ one_not_subsumed w.0 (atom false q) picks (subst (λ x. Subsumes w.0 [] x.lits picks) e.2 w.1)
]
none_before (resolution parent number other other_number picks other_picks) (c, d, at, at', w) before =
    let t = w.0 in
    let u = w.1 in
    let pred = w.2.0 in
    let args = w.2.1 in
    elim (clause_cases parent number c at) [
      | inr e ↦ not_both_signs pred q args [] (sym (cut_one t (affirmed pred args) (atom false q) picks (subst (λ x. Cuts t [] (affirmed pred args) x.lits picks) e.2 w.2.2)))
      | inl e ↦ elim (clause_cases other other_number d at') [
        | inl f ↦ not_both_signs q pred [] args (cut_one u (denied pred args) (atom true q) other_picks (subst (λ x. Cuts u [] (denied pred args) x.lits other_picks) f.2 w.2.3))
        | inr f ↦ at_tail parent number other other_number (picks ++ other_picks) e.0 e.1 f.0 f.1 before
      ]
    ]
  where
    at_tail : (i k j l : ℕ) (ns : List ℕ) → i ≡ 0 → k ≡ 0 → j ≡ 1 → l ≡ 0 → IsListBefore (i ∷ k ∷ j ∷ l ∷ ns) (0 ∷ 0 ∷ 1 ∷ 0 ∷ 0 ∷ 0 ∷ []) → ⊥
    at_tail i k j l ns a b c d (inl h) = omega (arith, a, h)
    at_tail i k j l ns a b c d (inr (e, inl h)) = omega (arith, b, h)
    at_tail i k j l ns a b c d (inr (e, inr (e', inl h))) = omega (arith, c, h)
    at_tail i k j l ns a b c d (inr (e, inr (e', inr (e'', inl h)))) = omega (arith, d, h)
    at_tail i k j l ns a b c d (inr (e, inr (e', inr (e'', inr h)))) = not_below ns h.1

works : Works target (end ∷ last_list ∷ []) (resolution 0 0 1 0 (0 ∷ []) (0 ∷ []))
works = (
  ground_clause (atom true q ∷ []),
  ground_clause (atom false q ∷ []),
  (end, row (atom true q ∷ []), refl, refl, refl),
  (last_list, row (atom false q ∷ []), refl, refl, refl),
  (Var, Var, (q, [], ((inr (refl, refl), tt), (0, omega arith, refl)), ((inr (refl, refl), tt), (0, omega arith, refl)))),
)

has_terms : HasTerms target (end ∷ last_list ∷ []) last_step
has_terms = (
  ground_clause (atom true q ∷ []),
  ground_clause (atom false q ∷ []),
  (end, row (atom true q ∷ []), refl, refl, refl),
  (last_list, row (atom false q ∷ []), refl, refl, refl),
  (
    Var,
    Var,
    (
      (q, [], ((inr (refl, refl), tt), (0, omega arith, refl)), ((inr (refl, refl), tt), (0, omega arith, refl))),
      λ u u' h. (Var, (λ k less. absurd (omega (arith, less))), (λ j less. absurd (omega (arith, less))), (λ j less. absurd (omega (arith, less)))),
    ),
    refl,
    refl,
  ),
)

follows : IsJustification target (end ∷ last_list ∷ []) (Some last_step)
follows = ((works, none_before), has_terms)

-- ---- the chain

abbrev pub parents : List ClauseList
parents = listed (atom true p ∷ []) ∷ listed (atom false p ∷ atom true q ∷ []) ∷ last_list ∷ []

abbrev pub way : Way
way = record { start = 0; links = link ∷ [] }

is_chain : IsChain target parents way chain
is_chain = record {
  first = listed (atom true p ∷ []);
  rest = listed (atom false p ∷ atom true q ∷ []) ∷ last_list ∷ [];
  whole = refl;
  row = row (atom true p ∷ []);
  at = refl;
  continues = goes 0 (ground_clause (atom true p ∷ [])) (listed (atom false p ∷ atom true q ∷ [])) (last_list ∷ []) link [] (row (atom false p ∷ atom true q ∷ []))
      (ground_clause (atom true q ∷ [])) [] first_step (last_step ∷ []) refl resolvent (ends 0 (ground_clause (atom true q ∷ [])) last_list last_step follows);
}

-- the only literal of a clause is taken
taken_one : (t : ℕ → Term) (pivot l : Literal) (taken : List Bool) → AreTaken t pivot (l ∷ []) taken → Contains taken true → taken ≡ true ∷ []
taken_one t pivot l [] h there = absurd h
taken_one t pivot l (true ∷ []) h there = refl
taken_one t pivot l (true ∷ b ∷ taken) h there = absurd h.1
taken_one t pivot l (false ∷ []) h (zero, less, is) = cc
taken_one t pivot l (false ∷ []) h (suc k, less, is) = absurd (omega (arith, less))
taken_one t pivot l (false ∷ b ∷ taken) h there = absurd h

-- of ~p | q a literal with a negative sign is taken: so ~p is, and the key is no less
taken_two : (u : ℕ → Term) (pred : SymKey) (args : List Term) (others : List Bool) (ns : List ℕ) → AreTaken u (denied pred args) (atom false p ∷ atom true q ∷ []) others → Contains others true
    → IsListBefore (map bit others ++ ns) (1 ∷ 0 ∷ []) → ⊥
taken_two u pred args [] ns h there before = h
taken_two u pred args (a ∷ []) ns h there before = short u pred args a h
  where
    short : (u : ℕ → Term) (pred : SymKey) (args : List Term) (a : Bool) → AreTaken u (denied pred args) (atom false p ∷ atom true q ∷ []) (a ∷ []) → ⊥
    short u pred args true h = h.1
    short u pred args false h = h
taken_two u pred args (true ∷ true ∷ others) ns h there before = not_both_signs q pred [] args h.1.0
taken_two u pred args (false ∷ true ∷ others) ns h there before = not_both_signs q pred [] args h.0
taken_two u pred args (true ∷ false ∷ b ∷ others) ns h there before = h.1
taken_two u pred args (false ∷ false ∷ b ∷ others) ns h there before = h
taken_two u pred args (false ∷ false ∷ []) ns h (zero, less, is) before = cc
taken_two u pred args (false ∷ false ∷ []) ns h (suc zero, less, is) before = cc
taken_two u pred args (false ∷ false ∷ []) ns h (suc (suc k), less, is) before = omega (arith, less)
taken_two u pred args (true ∷ false ∷ []) ns h there (inl less) = omega (arith, less)
taken_two u pred args (true ∷ false ∷ []) ns h there (inr (e, inl less)) = omega (arith, less)
taken_two u pred args (true ∷ false ∷ []) [] h there (inr (e, inr w)) = w.1
taken_two u pred args (true ∷ false ∷ []) (n ∷ ns) h there (inr (e, inr w)) = w.1

-- no resolvent by a lesser link
by_link : (number : ℕ) (sign : Bool) (taken others : List Bool) (t u : ℕ → Term) (rest : List ℕ)
    → AreUnified sign (ground_clause (atom true p ∷ [])) (ground_clause (atom false p ∷ atom true q ∷ [])) taken others t u
    → IsListBefore ((number ∷ bit (not sign) ∷ (map bit taken ++ map bit others)) ++ rest) (0 ∷ 0 ∷ 1 ∷ 1 ∷ 0 ∷ []) → ⊥
by_link number sign taken others t u rest h (inl less) = omega (arith, less)
by_link number false taken others t u rest h (inr (e, inl less)) = omega (arith, less)
by_link number false taken others t u rest h (inr (e, inr w)) = omega (arith, w.0)
by_link number true taken others t u rest h (inr (e, inl less)) = omega (arith, less)
by_link number true taken others t u rest (pred, args, one, two, some, others_some) (inr (e, inr w)) =
    let all : taken ≡ true ∷ [] = taken_one t (signed true pred args) (atom true p) taken one some in
    let before = subst (λ x. IsListBefore ((map bit x ++ map bit others) ++ rest) (1 ∷ 1 ∷ 0 ∷ [])) all w.1 in
    after u pred args others rest two others_some before
  where
    after : (u : ℕ → Term) (pred : SymKey) (args : List Term) (others : List Bool) (rest : List ℕ) → AreTaken u (denied pred args) (atom false p ∷ atom true q ∷ []) others → Contains others true
        → IsListBefore (1 ∷ (map bit others ++ rest)) (1 ∷ 1 ∷ 0 ∷ []) → ⊥
    after u pred args others rest two there (inl less) = omega (arith, less)
    after u pred args others rest two there (inr w) = taken_two u pred args others rest two there w.1

number_zero : (k : ℕ) (ns ms : List ℕ) → IsListBefore ((k ∷ ns) ++ ms) (0 ∷ 0 ∷ 1 ∷ 1 ∷ 0 ∷ []) → k ≡ 0
number_zero k ns ms (inl less) = absurd (omega (arith, less))
number_zero k ns ms (inr w) = w.0

-- nothing continues by a lesser way
none_before_it : (k : ℕ) (middle : Clause) (rest : List ClauseList) (links : List Link) (mids : List Clause) (steps : List Justification) → IsContinuation target k middle rest links mids steps
    → middle ≡ ground_clause (atom true p ∷ []) → rest ≡ listed (atom false p ∷ atom true q ∷ []) ∷ last_list ∷ [] → IsListBefore (k ∷ joined (map link_key links)) (0 ∷ 0 ∷ 0 ∷ 1 ∷ 1 ∷ 0 ∷ []) → ⊥
none_before_it k _ _ _ _ _ (ends _ _ last step is) m r before = cc
none_before_it k _ _ _ _ _ (goes _ middle next rest one links second resolvent mids step steps at is more) m r (inl less) = omega (arith, less)
none_before_it k _ _ _ _ _ (goes _ middle next rest one links second resolvent mids step steps at is more) m r (inr (zero_number, w)) =
    let n : next ≡ listed (atom false p ∷ atom true q ∷ []) = cc in
    let before : IsListBefore ((one.number ∷ bit (not one.sign) ∷ (map bit one.taken ++ map bit one.others)) ++ joined (map link_key links)) (0 ∷ 0 ∷ 1 ∷ 1 ∷ 0 ∷ []) = w in
    let k_is : one.number ≡ 0 = number_zero one.number (bit (not one.sign) ∷ (map bit one.taken ++ map bit one.others)) (joined (map link_key links)) before in
    let b : row (atom false p ∷ atom true q ∷ []) ≡ second =
    same_some (slice_get next.rows 0) (row (atom false p ∷ atom true q ∷ [])) second (ap (λ x. slice_get x.rows 0) n) (subst (λ x. slice_get next.rows x ≡ Some second) k_is at) in
    let unified = subst (λ x. AreUnified one.sign middle x.clause one.taken one.others is.t is.u) (sym b) is.general.0 in
    let unified' = subst (λ x. AreUnified one.sign x (ground_clause (atom false p ∷ atom true q ∷ [])) one.taken one.others is.t is.u) m unified in
    by_link one.number one.sign one.taken one.others is.t is.u (joined (map link_key links)) unified' before

none_less : (other : Way) (that : Chain) → IsChain target parents other that → IsListBefore (way_key other) (way_key way) → ⊥
none_less other that is before =
    let first : is.first ≡ listed (atom true p ∷ []) = let e = is.whole in cc in
    let rest : is.rest ≡ listed (atom false p ∷ atom true q ∷ []) ∷ last_list ∷ [] = let e = is.whole in cc in
    let start : other.start ≡ 0 = start_zero other.start (joined (map link_key other.links)) before in
    let at = subst (λ x. slice_get is.first.rows x ≡ Some is.row) start is.at in
    let r : row (atom true p ∷ []) ≡ is.row = same_some (slice_get is.first.rows 0) (row (atom true p ∷ [])) is.row (ap (λ x. slice_get x.rows 0) first) at in
    none_before_it other.start is.row.clause is.rest other.links that.mids that.steps is.continues (ap (λ x. x.clause) (sym r)) rest before
  where
    start_zero : (k : ℕ) (ns : List ℕ) → IsListBefore (k ∷ ns) (0 ∷ 0 ∷ 0 ∷ 1 ∷ 1 ∷ 0 ∷ []) → k ≡ 0
    start_zero k ns (inl less) = absurd (omega (arith, less))
    start_zero k ns (inr w) = w.0

-- the chain of the row is the least
pub least_chain : IsLeastChain target parents chain
least_chain = (way, is_chain, none_less)
