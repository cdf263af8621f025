-- A stable sort is the sort by insertion, whatever way it goes.
use Rattle.std.proofs.Common.{◌≡◌, ◌<◌, ℕ, suc, ◌+◌, Bool, true, false, not, ◌&&◌, List, [], ◌∷◌, ◌++◌, cond, length, refl, sym, ap, ap₂, ◌∙◌, subst, arith}
use Rattle.std.proofs.lemmas.List.Elements.{filter-append}
use Rattle.std.proofs.lemmas.List.Sorted.{sorted_far}
use Rattle.std.specs.Cmp.{IsStrictWeakOrder}
use Rattle.std.specs.List.{AllByRecursion, filter}
use Rattle.std.specs.List.Sorted.{IsSortedBy, IsStableBy, ties}
use Rattle.std.specs.Prelude.{get_or}
use Rattle.normal_form.proofs.Sorts.{all_in, put_in}

not_true : (t : Bool) → (t ≡ true → t ≡ false) → t ≡ false
not_true true h = h refl
not_true false h = refl

both_not : (a b : Bool) → not a && not b ≡ true → (a ≡ false) × (b ≡ false)
both_not true b h = cc
both_not false true h = cc
both_not false false h = (refl, refl)

same_first : {X : Type 0} (x y : X) (l m : List X) → x ∷ l ≡ y ∷ m → x ≡ y
same_first x y l m h = cc

same_rest : {X : Type 0} (x y : X) (l m : List X) → x ∷ l ≡ y ∷ m → l ≡ m
same_rest x y l m h = cc

module _ {X : Type 0} (lt : X → X → Bool) (order : IsStrictWeakOrder lt) where
  abbrev after : X → X → Bool
  after a b = lt b a

  abbrev IsLeast : X → List X → Type 0
  IsLeast x = AllByRecursion (λ y. lt y x ≡ false)

  -- none is less than one before it
  abbrev pub Ascends : List X → Type 0
  Ascends [] = Unit {0}
  Ascends (x ∷ l) = IsLeast x l × Ascends l

  least_more : (x y : X) (l : List X) → lt y x ≡ false → IsLeast y l → IsLeast x l
  least_more x y [] h k = tt
  least_more x y (z ∷ l) h k = (order.chain z y x k.0 h, least_more x y l h k.1)

  least_put : (x a : X) (l : List X) → lt a x ≡ false → IsLeast x l → IsLeast x (put_in after a l)
  least_put x a [] h k = (h, tt)
  least_put x a (b ∷ l) h k = by_test (lt b a) (least_put x a l h k.1)
    where
      by_test : (t : Bool) → IsLeast x (put_in after a l) → IsLeast x (cond t (b ∷ put_in after a l) (a ∷ b ∷ l))
      by_test true w = (k.0, w)
      by_test false w = (h, k)

  ascends_put : (a : X) (l : List X) → Ascends l → Ascends (put_in after a l)
  ascends_put a [] h = (tt, tt)
  ascends_put a (b ∷ l) h = by_test (lt b a) refl (ascends_put a l h.1)
    where
      by_test : (t : Bool) → lt b a ≡ t → Ascends (put_in after a l) → Ascends (cond t (b ∷ put_in after a l) (a ∷ b ∷ l))
      by_test true e w = (least_put b a l (order.one_way b a e) h.0, w)
      by_test false e w = ((e, least_more a b l e h.0), h)

  pub ascends_sort : (l : List X) → Ascends (all_in after l [])
  ascends_sort [] = tt
  ascends_sort (a ∷ l) = ascends_put a (all_in after l []) (ascends_sort l)

  -- ---- what ties keeps its place

  level : (x a b : X) → ties lt x a ≡ true → ties lt x b ≡ true → lt b a ≡ false
  level x a b h k = order.chain b x a (both_not (lt x b) (lt b x) k).1 (both_not (lt x a) (lt a x) h).0

  impossible : {B : Type 0} (t : Bool) → t ≡ true → t ≡ false → B
  impossible t h k = cc

  filter_put : (x a : X) (l : List X) → filter (ties lt x) (put_in after a l) ≡ filter (ties lt x) (a ∷ l)
  filter_put x a [] = refl
  filter_put x a (b ∷ l) = by_test (lt b a) (ties lt x a) (ties lt x b) refl refl refl (filter_put x a l)
    where
      by_test : (t u v : Bool) → lt b a ≡ t → ties lt x a ≡ u → ties lt x b ≡ v
          → filter (ties lt x) (put_in after a l) ≡ cond (ties lt x a) (a ∷ filter (ties lt x) l) (filter (ties lt x) l)
          → filter (ties lt x) (cond t (b ∷ put_in after a l) (a ∷ b ∷ l))
          ≡ cond (ties lt x a) (a ∷ cond (ties lt x b) (b ∷ filter (ties lt x) l) (filter (ties lt x) l)) (cond (ties lt x b) (b ∷ filter (ties lt x) l) (filter (ties lt x) l))
      by_test false u v e p q h = refl
      by_test true true true e p q h = impossible (lt b a) e (level x a b p q)
      by_test true true false e p q h = simp (q, p, h)
      by_test true false v e p q h = simp (p, h)

  pub filter_sort : (x : X) (l : List X) → filter (ties lt x) (all_in after l []) ≡ filter (ties lt x) l
  filter_sort x [] = refl
  filter_sort x (a ∷ l) = filter_put x a (all_in after l []) ∙ ap (λ k. cond (ties lt x a) (a ∷ k) k) (filter_sort x l)

  -- ---- what ascends is told by its ties

  tied : (x y : X) → lt x y ≡ false → lt y x ≡ false → ties lt x y ≡ true
  tied x y h k = ap₂ (λ a b. not a && not b) h k

  alone : (x : X) → ties lt x x ≡ true
  alone x = let h : lt x x ≡ false = not_true (lt x x) (order.one_way x x) in tied x x h h

  -- the first that passes a test isn't less than the least
  first_passes : (test : X → Bool) (x y : X) (l r : List X) → filter test l ≡ x ∷ r → IsLeast y l → lt x y ≡ false
  first_passes test x y [] r h w = cc
  first_passes test x y (b ∷ l) r h w = by_test (test b) h (λ k. first_passes test x y l r k w.1)
    where
      by_test : (t : Bool) → cond t (b ∷ filter test l) (filter test l) ≡ x ∷ r → (filter test l ≡ x ∷ r → lt x y ≡ false) → lt x y ≡ false
      by_test true k later = subst (λ z. lt z y ≡ false) (same_first b x (filter test l) r k) w.0
      by_test false k later = later k

  passes : (test : X → Bool) (x : X) (l : List X) → test x ≡ true → filter test (x ∷ l) ≡ x ∷ filter test l
  passes test x l h = ap (λ t. cond t (x ∷ filter test l) (filter test l)) h

  abbrev pub SameTies : List X → List X → Type 0
  SameTies l m = (x : X) → filter (ties lt x) l ≡ filter (ties lt x) m

  same_tail : (x : X) (l m : List X) → SameTies (x ∷ l) (x ∷ m) → SameTies l m
  same_tail x l m h z = by_test (ties lt z x) (h z)
    where
      by_test : (t : Bool) → cond t (x ∷ filter (ties lt z) l) (filter (ties lt z) l) ≡ cond t (x ∷ filter (ties lt z) m) (filter (ties lt z) m)
          → filter (ties lt z) l ≡ filter (ties lt z) m
      by_test true k = same_rest x x (filter (ties lt z) l) (filter (ties lt z) m) k
      by_test false k = k

  pub told_by_ties : (l m : List X) → Ascends l → Ascends m → SameTies l m → l ≡ m
  told_by_ties [] [] h k w = refl
  told_by_ties [] (y ∷ m) h k w = nothing (w y ∙ passes (ties lt y) y m (alone y))
    where
      nothing : {B : Type 0} → [] ≡ y ∷ filter (ties lt y) m → B
      nothing e = cc
  told_by_ties (x ∷ l) [] h k w = nothing (sym (w x) ∙ passes (ties lt x) x l (alone x))
    where
      nothing : {B : Type 0} → [] ≡ x ∷ filter (ties lt x) l → B
      nothing e = cc
  told_by_ties (x ∷ l) (y ∷ m) h k w = one (same_first x y (filter (ties lt x) l) (filter (ties lt x) m) (sym here ∙ w x ∙ there)) (told_by_ties l m h.1 k.1)
    where
      here : filter (ties lt x) (x ∷ l) ≡ x ∷ filter (ties lt x) l
      here = passes (ties lt x) x l (alone x)

      not_less : lt x y ≡ false
      not_less = first_passes (ties lt x) x y (y ∷ m) (filter (ties lt x) l) (sym (w x) ∙ here) (not_true (lt y y) (order.one_way y y), k.0)

      not_greater : lt y x ≡ false
      not_greater =
          first_passes (ties lt y) y x (x ∷ l) (filter (ties lt y) m) (w y ∙ passes (ties lt y) y m (alone y)) (not_true (lt x x) (order.one_way x x), h.0)

      there : filter (ties lt x) (y ∷ m) ≡ y ∷ filter (ties lt x) m
      there = passes (ties lt x) y m (tied x y not_less not_greater)

      one : x ≡ y → (SameTies l m → l ≡ m) → x ∷ l ≡ y ∷ m
      one e f = ap₂ (λ a b. a ∷ b) e (f (same_tail x l m (subst (λ z. SameTies (x ∷ l) (z ∷ m)) (sym e) w)))

  pub sort_ties : (l m : List X) → SameTies l m → all_in after l [] ≡ all_in after m []
  sort_ties l m h =
      told_by_ties (all_in after l []) (all_in after m []) (ascends_sort l) (ascends_sort m) (λ x. filter_sort x l ∙ h x ∙ sym (filter_sort x m))

  ties_of_sort : (l m : List X) → all_in after l [] ≡ all_in after m [] → SameTies l m
  ties_of_sort l m h x = sym (filter_sort x l) ∙ ap (filter (ties lt x)) h ∙ filter_sort x m

  -- the sort of two lists, one after the other, is known from their sorts
  pub sort_append : (l m k n : List X) → all_in after l [] ≡ all_in after k [] → all_in after m [] ≡ all_in after n []
      → all_in after (l ++ m) [] ≡ all_in after (k ++ n) []
  sort_append l m k n h w =
      sort_ties (l ++ m) (k ++ n)
      (λ x. filter-append (ties lt x) l m ∙ ap₂ (λ a b. a ++ b) (ties_of_sort l k h x) (ties_of_sort m n w x) ∙ sym (filter-append (ties lt x) k n))

  pub sort_twice : (l : List X) → all_in after (all_in after l []) [] ≡ all_in after l []
  sort_twice l = sort_ties (all_in after l []) l (λ x. filter_sort x l)

  -- ---- std's stable sorts

  least_of : (x : X) (l : List X) → ((j : ℕ) → j < length l → lt (get_or l j x) x ≡ false) → IsLeast x l
  least_of x [] h = tt
  least_of x (y ∷ l) h = (h 0 (omega arith), least_of x l (λ j k. h (suc j) (omega (arith, k))))

  tail_sorted : (x : X) (l : List X) → IsSortedBy lt (x ∷ l) → IsSortedBy lt l
  tail_sorted x l h k d low high =
      let next : suc k + 1 ≡ suc (k + 1) = omega arith in
      subst (λ j. lt (get_or (x ∷ l) j d) (get_or l k d) ≡ false) next (h (suc k) d (omega arith) (omega (arith, high)))

  ascends_of : (l : List X) → IsSortedBy lt l → Ascends l
  ascends_of [] h = tt
  ascends_of (x ∷ l) h = (least_of x l (λ j k. sorted_far lt order (x ∷ l) h 0 (suc j) x (omega arith) (omega (arith, k))), ascends_of l (tail_sorted x l h))

  pub stable_sort : (l m : List X) → IsSortedBy lt m → IsStableBy lt l m → m ≡ all_in after l []
  stable_sort l m h w = told_by_ties m (all_in after l []) (ascends_of m h) (ascends_sort l) (λ x. w x ∙ sym (filter_sort x l))
