-- Skolem terms that are sorted.
use Rattle.std.proofs.Common.{◌≡◌, ◌≢◌, ℕ, ◌<◌, ◌≤◌, Bool, true, false, nat_eq, nat_lt, List, [], ◌∷◌, cond, get_or, length, map, refl, sym, ap, ap₂, subst, ◌∙◌, ◌⊎◌, inl, inr, ⊎_elim, arith, eq-eqb}
use Rattle.std.specs.Cmp.{IsStrictWeakOrder, IsTotalOrder}
use Rattle.std.specs.List.{All, AllPairs, Contains, filter, swap}
use Rattle.std.specs.List.Sorted.{IsPermutation, IsSortedBy}
use Rattle.std.specs.Ordering.{is_lt, nat_cmp, ordering_then}
use Rattle.std.proofs.lemmas.Bool.{cases_Bool, eqb-true}
use Rattle.std.proofs.lemmas.Cmp.{nat_cmp_total, on_total, then_total}
use Rattle.std.proofs.lemmas.List.{get_or-map, get_or_default, length-map}
use Rattle.std.proofs.lemmas.List.Edits.{Swapped, length-swap, swapped_from_swap}
use Rattle.std.proofs.lemmas.List.Elements.{All-contains_itself, All-get_or, All-map, All-weaker}
use Rattle.std.proofs.lemmas.List.Kept.{AllPairs-filter}
use Rattle.std.proofs.lemmas.List.Sorted.{All-permutation, Contains-permutation, IsPermutation-keeps, IsPermutation-map, IsPermutation-sym, length_permutation, ranks_by, sorted_far}
use Rattle.dk_syntax.specs.Depth.{capped, term_depth_of}
use Rattle.dk_syntax.specs.Order.{order_of}
use Rattle.dk_syntax.specs.TermTables.{IsTermTable}
use Rattle.dk_syntax.specs.declared.Literal.{Literal}
use Rattle.dk_syntax.specs.declared.Term.{Any, Term}
use Rattle.expansion.specs.declared.Thin.{Thin}
use Rattle.skolem_order.proofs.ListFacts.{filter_contains}
use Rattle.skolem_order.proofs.NeededLaws.{members_needed, needed_members}
use Rattle.skolem_order.proofs.PartLaws.{depth_in, place_in}
use Rattle.skolem_order.proofs.TermOrders.{order_total}
use Rattle.skolem_order.specs.Closing.{HasClosed}
use Rattle.skolem_order.specs.Order.{AreGround, AreNeeded, rank, root_terms, skolem_order}
use Rattle.skolem_order.specs.Origins.{is_skolem}
use Rattle.skolem_order.specs.Ranks.{AreInOrder, less_ranked, ranked, ranked_order, term_in}
use Rattle.skolem_order.specs.Tables.{HasEntered}
use Rattle.skolem_order.specs.declared.origins.Origin.{Origin}
use Rattle.skolem_order.specs.declared.ranking.Ranked.{Ranked}

-- ---- the order

ranked_total : IsTotalOrder ranked_order
ranked_total = then_total (on_total (λ (a : Ranked). a.depth) nat_cmp_total) (then_total (on_total (λ (a : Ranked). a.rank) nat_cmp_total) (on_total term_in order_total))

pub ranked_weak : IsStrictWeakOrder less_ranked
ranked_weak = ranks_by ranked_total (λ (a : Ranked). a)

-- ---- different terms stay different when they change places

abbrev AreDifferent : List Term → Type 0
AreDifferent l = AllPairs (λ x y. x ≢ y) l

true_false : true ≡ false → ⊥
true_false e = cc

same_or_not : (i a : ℕ) → (i ≡ a) ⊎ (i ≢ a)
same_or_not i a = elim (cases_Bool (nat_eq i a)) [
  | inl p ↦ inl (eqb-true i a p)
  | inr p ↦ inr (λ e. true_false (sym (eq-eqb i a e) ∙ p))
]

apart : (i j : ℕ) → i ≢ j → (i < j) ⊎ (j < i)
apart i j n = elim (cases_Bool (nat_lt i j)) [
  | inl p ↦ inl (let h : i < j = grind (arith, p) in h)
  | inr p ↦ inr (let far : j ≤ i = grind (arith, p) in let m : ¬ i ≡ j = n in omega (arith, far, m))
]

different_at : (l : List Term) → AreDifferent l → (i j : ℕ) (d : Term) → i < length l → j < length l → i ≢ j → get_or l i d ≢ get_or l j d
different_at l h i j d a b n = λ e. ⊎_elim (λ (x : i < j). h i j d x b e) (λ (x : j < i). h j i d x a (sym e)) (apart i j n)

swap_step : (l : List Term) (a b : ℕ) → a < length l → b < length l → AreDifferent l → AreDifferent (swap l a b)
swap_step l a b ha hb h i j d less below = λ e. by_first e (same_or_not i a) (same_or_not i b)
  where
    g : ℕ → Term
    g k = get_or (swap l a b) k d

    moved : Swapped (λ k. get_or l k d) (λ k. get_or (swap l a b) k d) a b
    moved = swapped_from_swap l (swap l a b) a b d ha hb refl

    in_j : j < length l
    in_j = let e = length-swap l a b in omega (arith, below, e)

    in_i : i < length l
    in_i = let e = length-swap l a b in omega (arith, below, e, less)

    apart_ij : i ≢ j
    apart_ij = λ e. let n : ⊥ = omega (arith, e, less) in n

    pair : (k m : ℕ) → get_or (swap l a b) i d ≡ get_or l k d → get_or (swap l a b) j d ≡ get_or l m d → k < length l → m < length l → k ≢ m
        → get_or (swap l a b) i d ≡ get_or (swap l a b) j d → ⊥
    pair k m p q hk hm n e = different_at l h k m d hk hm n (sym p ∙ e ∙ q)

    at_a : (k : ℕ) → k ≡ a → get_or (swap l a b) k d ≡ get_or l b d
    at_a k e = ap (λ x. get_or (swap l a b) x d) e ∙ moved.0

    at_b : (k : ℕ) → k ≡ b → get_or (swap l a b) k d ≡ get_or l a d
    at_b k e = ap (λ x. get_or (swap l a b) x d) e ∙ moved.1

    -- j, where i is at k in the old list, which is no place where j may be
    by_second : (k : ℕ) → get_or (swap l a b) i d ≡ get_or l k d → k < length l → (j ≡ a → k ≢ b) → (j ≡ b → k ≢ a) → (j ≢ a → j ≢ b → k ≢ j)
        → get_or (swap l a b) i d ≡ get_or (swap l a b) j d → (j ≡ a) ⊎ (j ≢ a) → (j ≡ b) ⊎ (j ≢ b) → ⊥
    by_second k p hk one two three e x y =
        ⊎_elim (λ ja. pair k b p (at_a j ja) hk hb (one ja) e)
        (λ na. ⊎_elim (λ jb. pair k a p (at_b j jb) hk ha (two jb) e) (λ nb. pair k j p (moved.2 j na nb) hk in_j (three na nb) e) y) x

    by_first : get_or (swap l a b) i d ≡ get_or (swap l a b) j d → (i ≡ a) ⊎ (i ≢ a) → (i ≡ b) ⊎ (i ≢ b) → ⊥
    by_first e x y =
        ⊎_elim (λ ia. by_second b (at_a i ia) hb (λ ja. λ z. apart_ij (ia ∙ sym ja)) (λ jb. λ z. apart_ij (ia ∙ sym z ∙ sym jb)) (λ na nb. λ z. nb (sym z)) e (same_or_not j a) (same_or_not j b))
        (λ na. ⊎_elim (λ ib. by_second a (at_b i ib) ha (λ ja. λ z. apart_ij (ib ∙ sym z ∙ sym ja)) (λ jb. λ z. apart_ij (ib ∙ sym jb)) (λ ma mb. λ z. ma (sym z)) e (same_or_not j a) (same_or_not j b))
        (λ nb. by_second i (moved.2 i na nb) in_i (λ ja. nb) (λ jb. na) (λ ma mb. apart_ij) e (same_or_not j a) (same_or_not j b)) y) x

different_moved : (l m : List Term) → IsPermutation l m → AreDifferent l → AreDifferent m
different_moved l m p h = IsPermutation-keeps l AreDifferent h (λ x a b ha hb w. swap_step x a b ha hb w) m p

table_different : (table : List Term) → IsTermTable table → AreDifferent table
table_different table is i j d less below = λ e.
    let in_i : i < length table = omega (arith, less, below) in
    let same : i ≡ j = is.distinct i j in_i below (get_or_default table i Any d in_i ∙ e ∙ get_or_default table j d Any below) in
    let n : ⊥ = omega (arith, same, less) in n

-- ---- what the terms are sorted by

capped_small : (n : ℕ) → n ≤ 4294967296 → capped n ≡ n
capped_small n h = omega (arith, h)

-- the depth and the rank are those of the term
abbrev IsRanked : List Origin → Ranked → Type 0
IsRanked os r = (r.depth ≡ term_depth_of r.term) × (r.rank ≡ rank os r.term)

compared_same : (os : List Origin) (r q : Ranked) → IsRanked os r → IsRanked os q → ranked_order r q ≡ skolem_order os r.term q.term
compared_same os r q h k = ap₂ (λ x y. ordering_then x (ordering_then y (order_of r.term q.term))) (ap₂ nat_cmp h.0 k.0) (ap₂ nat_cmp h.1 k.1)

unranked : (os : List Origin) (l : List Term) → map term_in (map (ranked os) l) ≡ l
unranked os [] = refl
unranked os (t ∷ l) = ap (λ k. t ∷ k) (unranked os l)

module _ (os : List Origin) (table : List Term) (is : IsTermTable table) (short : length table < 4294967296) where
  abbrev skolems : List Term
  skolems = filter (is_skolem os) table

  all_ranked : All (IsRanked os) (map (ranked os) skolems)
  all_ranked = All-map (IsRanked os) (ranked os) skolems (All-weaker (Contains skolems) (λ t. IsRanked os (ranked os t)) (λ t c. one t c) skolems (All-contains_itself skolems))
    where
      one : (t : Term) → Contains skolems t → IsRanked os (ranked os t)
      one t c =
          let p = place_in table t (filter_contains (is_skolem os) table t c).0 in
          let d = depth_in table is t p.0 p.1 p.2 in
          (capped_small (term_depth_of t) (omega (arith, d, p.1, short)), refl)

  pub sorted_in_order : (list : List Ranked) → IsPermutation (map (ranked os) skolems) list → IsSortedBy less_ranked list → AreInOrder os table (map term_in list)
  sorted_in_order list p sorted = record { is = is; same = same; ascends = λ i j d less below. (different i j d less below, after i j d less below) }
    where
      same : IsPermutation skolems (map term_in list)
      same = subst (λ l. IsPermutation l (map term_in list)) (unranked os skolems) (IsPermutation-map term_in (map (ranked os) skolems) list p)

      different : AreDifferent (map term_in list)
      different = different_moved skolems (map term_in list) same (AllPairs-filter (λ x y. x ≢ y) (is_skolem os) table (table_different table is))

      each : All (IsRanked os) list
      each = All-permutation (IsRanked os) (map (ranked os) skolems) list p all_ranked

      after : (i j : ℕ) (d : Term) → i < j → j < length (map term_in list) → is_lt (skolem_order os (get_or (map term_in list) j d) (get_or (map term_in list) i d)) ≡ false
      after i j d less below =
          let e = ranked os d in
          let long : length (map term_in list) ≡ length list = length-map list term_in in
          let in_j : j < length list = omega (arith, below, long) in
          let in_i : i < length list = omega (arith, less, in_j) in
          let up : i ≤ j = omega (arith, less) in
          let r = get_or list i e in
          let q = get_or list j e in
          ap is_lt (ap₂ (skolem_order os) (get_or-map term_in list j e d in_j) (get_or-map term_in list i e d in_i)
          ∙ sym (compared_same os q r (All-get_or (IsRanked os) list j e in_j each) (All-get_or (IsRanked os) list i e in_i each)))
          ∙ sorted_far less_ranked ranked_weak list sorted i j e up in_j

-- ---- the order of the needed terms

filter_short : {A : Type 0} (p : A → Bool) (xs : List A) → length (filter p xs) ≤ length xs
filter_short p [] = omega arith
filter_short p (x ∷ xs) = by_test (p x) (filter_short p xs)
  where
    by_test : (b : Bool) → length (filter p xs) ≤ length xs → length (cond b (x ∷ filter p xs) (filter p xs)) ≤ length (x ∷ xs)
    by_test true h = omega (arith, h)
    by_test false h = omega (arith, h)

pub order_short : (os : List Origin) (table list : List Term) → AreInOrder os table list → length list ≤ length table
order_short os table list h =
    let a = length_permutation (filter (is_skolem os) table) list h.same in
    let b = filter_short (is_skolem os) table in omega (arith, a, b)

pub are_needed : (os : List Origin) (roots first table list : List Term) → HasEntered [] roots first → HasClosed os first table → AreInOrder os table list
    → AreGround roots → AreNeeded os roots list
are_needed os roots first table list entered closed order grounds = record {
  needed = λ t c. members_needed os roots first table order.is grounds entered closed t
      (Contains-permutation list (filter (is_skolem os) table) t (IsPermutation-sym (filter (is_skolem os) table) list order.same) c);
  all = λ t n. Contains-permutation (filter (is_skolem os) table) list t order.same (needed_members os roots first table order.is grounds entered closed t n);
  ascends = order.ascends;
}

-- the same, as the code has it
pub needed_there : (os zs : List Origin) (thins ts : List Thin) (clauses cs : List (List Literal)) (none first table order : List Term) → zs ≡ os → ts ≡ thins → cs ≡ clauses → none ≡ []
    → HasEntered none (root_terms ts cs) first → HasClosed zs first table → AreInOrder zs table order → AreGround (root_terms thins clauses) → AreNeeded os (root_terms thins clauses) order
needed_there os zs thins ts clauses cs none first table order ze te ce ne entered closed in_order grounds =
    subst (λ o. AreNeeded o (root_terms thins clauses) order) ze
    (are_needed zs (root_terms thins clauses) first table order
    (subst (λ n. HasEntered n (root_terms thins clauses) first) ne (subst (λ r. HasEntered none r first) (ap₂ root_terms te ce) entered)) closed in_order grounds)
