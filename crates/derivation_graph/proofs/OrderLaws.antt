-- Orders and cycles: with an order there is no cycle, and without a cycle no step is left out.
use Rattle.std.proofs.Common.{◌≡◌, ℕ, zero, suc, ◌-◌, ◌<◌, ◌≤◌, Bool, true, false, nat_eq, if◌then◌else◌, List, [], ◌∷◌, ◌++◌, length, Contains, inl, inr, refl, subst, sym, ap, arith, append_assoc, eq-eqb}
use Rattle.std.proofs.lemmas.Bool.{cases_eq, eqb-true}
use Rattle.std.proofs.Math.ListN.{get_or-eq_default}
use Rattle.indexmap.proofs.IndexTableLemmas.Probe.{pigeonhole}
use native.Mathlib.Decide.{dec_lt}
use Rattle.derivation_graph.specs.Agendas.{AreStuck}
use Rattle.derivation_graph.specs.Graphs.{HasNoCycle, HasParent, HasStepsForParents, IsStep, Walks, turn, onward}
use Rattle.derivation_graph.specs.Orders.{ComeAfter, HasOrder, IsOrderOf, ListsAll, place_in}
use Rattle.derivation_graph.proofs.Members.{contains_cons, member_or_not, none_in_nothing}

-- ---- places

-- a member of the first list has its place there
pub place_in_first : (xs ys : List ℕ) (q : ℕ) → Contains xs q → place_in (xs ++ ys) q < length xs
place_in_first [] ys q h = absurd (none_in_nothing q h)
place_in_first (x ∷ xs) ys q h = by_test (place_in_first xs ys q) (nat_eq x q) refl
  where
    by_test : (Contains xs q → place_in (xs ++ ys) q < length xs) → (b : Bool) → nat_eq x q ≡ b → (if b then 0 else suc (place_in (xs ++ ys) q)) < suc (length xs)
    by_test later true e = omega arith
    by_test later false e = elim (contains_cons x q xs h) [
      | inl same ↦ let t = eq-eqb x q same in cc
      | inr there ↦ omega (arith, later there)
    ]

-- what isn't in the first list has its place after it
pub place_in_second : (xs ys : List ℕ) (q : ℕ) → (Contains xs q → ⊥) → place_in (xs ++ q ∷ ys) q ≡ length xs
place_in_second [] ys q absent = rw (eq-eqb q q refl) refl
place_in_second (x ∷ xs) ys q absent = by_test (place_in_second xs ys q (λ h. absent (suc h.0, omega (arith, h.1), h.2))) (nat_eq x q) refl
  where
    by_test : place_in (xs ++ q ∷ ys) q ≡ length xs → (b : Bool) → nat_eq x q ≡ b → (if b then 0 else suc (place_in (xs ++ q ∷ ys) q)) ≡ suc (length xs)
    by_test later true e = absurd (absent (zero, omega arith, eqb-true x q e))
    by_test later false e = ap suc later

-- ---- orders

-- in an order each parent of a step has a smaller place than the step
pub parent_before : (rows : List (List ℕ)) (listed rest : List ℕ) (step parent : ℕ) → ComeAfter rows listed rest → Contains rest step → HasParent rows step parent
    → place_in (listed ++ rest) parent < place_in (listed ++ rest) step
parent_before rows listed [] step parent h has is = absurd (none_in_nothing step has)
parent_before rows listed (first ∷ rest) step parent h has is = elim (cases_eq first step) [
  | inl same ↦
      let ready = h.0.0 in
      let before = ready.after parent (subst (λ x. HasParent rows x parent) (sym same) is) in
      let low = place_in_first listed (first ∷ rest) parent before in
      let high : place_in (listed ++ first ∷ rest) first ≡ length listed = place_in_second listed rest first ready.fresh in
      let high' : place_in (listed ++ first ∷ rest) step ≡ length listed = subst (λ x. place_in (listed ++ first ∷ rest) x ≡ length listed) same high in
      omega arith
  | inr differs ↦ elim (contains_cons first step rest has) [
    | inl same ↦ absurd (differs same)
    | inr later ↦ subst (λ l. place_in l parent < place_in l step) (append_assoc listed (first ∷ []) rest) (parent_before rows (listed ++ first ∷ []) rest step parent h.1 later is)
  ]
]

-- only a step has parents
pub parents_stand : (rows : List (List ℕ)) (step parent : ℕ) → HasParent rows step parent → IsStep rows step
parents_stand rows zero parent h = absurd (none_in_nothing parent h)
parents_stand rows (suc place) parent h = elim (dec_lt place (length rows)) [
  | yes below ↦ (omega arith, omega arith)
  | no past ↦ absurd (none_in_nothing parent (subst (λ l. Contains l parent) (get_or-eq_default rows [] {n = place} (omega arith)) h))
]

-- the place of a step in an order is a rank that falls along its parents, and so along walks
pub rank_falls : (rows : List (List ℕ)) (list : List ℕ) (step parent : ℕ) → IsOrderOf rows list → HasParent rows step parent → place_in list parent < place_in list step
rank_falls rows list step parent order h = parent_before rows [] list step parent order.0 (order.1 step (parents_stand rows step parent h)) h

pub walk_falls : (rows : List (List ℕ)) (list : List ℕ) (from to : ℕ) → IsOrderOf rows list → Walks rows from to → place_in list to < place_in list from
walk_falls rows list _ _ order (turn from to h) = rank_falls rows list from to order h
walk_falls rows list _ _ order (onward from through to h rest) =
    let a = rank_falls rows list from through order h in
    let b = walk_falls rows list through to order rest in omega arith

-- with an order no step lies on a cycle
pub no_cycle_in_order : (rows : List (List ℕ)) (list : List ℕ) → IsOrderOf rows list → HasNoCycle rows
no_cycle_in_order rows list order step walk = let falls = walk_falls rows list step step order walk in omega arith

-- ---- without a cycle

-- a walk with a turn more
pub walk_on : (rows : List (List ℕ)) (from through to : ℕ) → Walks rows from through → HasParent rows through to → Walks rows from to
walk_on rows _ _ to (turn from through h) last = onward from through to h (turn through to last)
walk_on rows _ _ to (onward from next through h rest) last = onward from next to h (walk_on rows next through to rest last)

module _ (rows : List (List ℕ)) (list : List ℕ) (acyclic : HasNoCycle rows) (parents : HasStepsForParents rows) (stuck : AreStuck rows list) where
  -- a step that isn't listed
  abbrev Left : Type 0
  Left = (step : ℕ) × IsStep rows step × (Contains list step → ⊥)

  -- a parent of it that isn't listed either
  abbrev up : Left → Left
  up left = let p = stuck left.0 left.1 left.2 in (p.0, parents left.0 p.0 p.1, p.2)

  -- after so many turns
  abbrev after : Left → ℕ → Left
  after left zero = left
  after left (suc n) = up (after left n)

  walks_up : (left : Left) (i j : ℕ) → i < j → Walks rows (after left i).0 (after left j).0
  walks_up left i zero below = absurd (omega arith)
  walks_up left i (suc j) below =
      let last : HasParent rows (after left j).0 (after left (suc j)).0 = (stuck (after left j).0 (after left j).1 (after left j).2).1 in
      elim (cases_eq i j) [
        | inl same ↦ subst (λ k. Walks rows (after left k).0 (after left (suc j)).0) (sym same) (turn (after left j).0 (after left (suc j)).0 last)
        | inr differs ↦ walk_on rows (after left i).0 (after left j).0 (after left (suc j)).0 (walks_up left i j (omega arith)) last
      ]

  none_twice : (left : Left) (i j : ℕ) → i < j → (after left i).0 ≡ (after left j).0 → ⊥
  none_twice left i j below same = acyclic (after left i).0 (subst (λ x. Walks rows (after left i).0 x) (sym same) (walks_up left i j below))

  none_left : Left → ⊥
  none_left left =
      let stands : (i : ℕ) → IsStep rows (after left i).0 = λ i. (after left i).1 in
      let more : suc (length rows) ≤ length rows = pigeonhole (suc (length rows)) (length rows) (λ i. (after left i).0 - 1)
      (λ i below. omega (arith, (stands i).0, (stands i).1))
      (λ i j below below' same.
      let equal : (after left i).0 ≡ (after left j).0 = omega (arith, (stands i).0, (stands j).0) in
      elim (dec_lt i j) [
        | yes less ↦ absurd (none_twice left i j less equal)
        | no not_less ↦ elim (dec_lt j i) [ yes less ↦ absurd (none_twice left j i less (sym equal)) | no not_more ↦ omega arith ]
      ])
      in omega arith

  -- without a cycle every step is listed
  pub none_left_out : ListsAll rows list
  none_left_out step stands = elim (member_or_not list step) [ inl listed ↦ listed | inr unlisted ↦ absurd (none_left (step, stands, unlisted)) ]

  -- so there is an order, if the list was made by turns
  pub has_order : ComeAfter rows [] list → HasOrder rows
  has_order turns = (list, (turns, none_left_out))
