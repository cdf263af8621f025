-- There is one list of the needed terms.
use Rattle.std.proofs.Common.{◌≡◌, zero, suc, false, List, [], ◌∷◌, refl, sym, ap₂, subst, ◌∙◌, ⊎_elim, arith}
use Rattle.std.specs.List.{AllPairs, Contains}
use Rattle.std.specs.Ordering.{is_lt, nat_cmp, ordering_reverse, ordering_then}
use Rattle.std.specs.declared.cmp.Ordering.{Ordering}
use Rattle.std.specs.declared.cmp.Ordering.TheVariants.{Equal, Greater, Less}
use Rattle.dk_syntax.specs.Depth.{term_depth_of}
use Rattle.dk_syntax.specs.Order.{order_of}
use Rattle.dk_syntax.specs.declared.Term.{Term}
use Rattle.skolem_order.proofs.FunctionTerms.{needed_functions}
use Rattle.skolem_order.proofs.ListFacts.{contains_cases, contains_first, contains_rest, none_in_nil}
use Rattle.skolem_order.proofs.PlaceLaws.{skolem_total}
use Rattle.skolem_order.proofs.TermOrders.{HasFunctions, both_tied, tied_is_one}
use Rattle.skolem_order.specs.Laws.{NeededListIsOne}
use Rattle.skolem_order.specs.Order.{IsBefore, rank, skolem_order}
use Rattle.skolem_order.specs.declared.origins.Origin.{Origin}

-- two answers that are each other's reverse, and neither of which is Less, are Equal
tied_answers : (a b : Ordering) → a ≡ ordering_reverse b → is_lt a ≡ false → is_lt b ≡ false → a ≡ Equal
tied_answers Less b e h k = absurd cc
tied_answers Equal b e h k = refl
tied_answers Greater Less e h k = absurd cc
tied_answers Greater Equal e h k = absurd cc
tied_answers Greater Greater e h k = absurd cc

module _ (os : List Origin) where
  neither_before : (x y : Term) → HasFunctions x → HasFunctions y → is_lt (skolem_order os x y) ≡ false → is_lt (skolem_order os y x) ≡ false → x ≡ y
  neither_before x y hx hy a b =
      let tied = tied_answers (skolem_order os x y) (skolem_order os y x) ((skolem_total os).antisymm x y) a b in
      let later = both_tied (nat_cmp (term_depth_of x) (term_depth_of y)) (ordering_then (nat_cmp (rank os x) (rank os y)) (order_of x y)) tied in
      let last = both_tied (nat_cmp (rank os x) (rank os y)) (order_of x y) later.1 in
      tied_is_one x y hx hy last.1

  head_before : (x : Term) (xs : List Term) → AllPairs (IsBefore os) (x ∷ xs) → (y : Term) → Contains xs y → IsBefore os x y
  head_before x xs h y c = subst (IsBefore os x) c.2 (h zero (suc c.0) y (omega arith) (omega (arith, c.1)))

  rest_before : (x : Term) (xs : List Term) → AllPairs (IsBefore os) (x ∷ xs) → AllPairs (IsBefore os) xs
  rest_before x xs h i j d less below = h (suc i) (suc j) d (omega (arith, less)) (omega (arith, below))

  abbrev AllIn : List Term → List Term → Type 0
  AllIn xs ys = (t : Term) → Contains xs t → Contains ys t

  -- what follows the first term of one list follows that of the other
  rest_in : (x y : Term) (xs ys : List Term) → x ≡ y → AllPairs (IsBefore os) (x ∷ xs) → AllIn (x ∷ xs) (y ∷ ys) → AllIn xs ys
  rest_in x y xs ys same h there t c =
      ⊎_elim (λ e. absurd ((head_before x xs h t c).0 (same ∙ e))) (λ r. r) (contains_cases y ys t (there t (contains_rest x xs t c)))

  same_list : (xs ys : List Term) → AllPairs (IsBefore os) xs → AllPairs (IsBefore os) ys → ((t : Term) → Contains xs t → HasFunctions t) → AllIn xs ys → AllIn ys xs → xs ≡ ys
  same_list [] [] a b h f g = refl
  same_list [] (y ∷ ys) a b h f g = absurd (none_in_nil y (g y (contains_first y ys)))
  same_list (x ∷ xs) [] a b h f g = absurd (none_in_nil x (f x (contains_first x xs)))
  same_list (x ∷ xs) (y ∷ ys) a b h f g =
      ap₂ (λ t l. t ∷ l) first
      (same_list xs ys (rest_before x xs a) (rest_before y ys b) (λ t c. h t (contains_rest x xs t c)) (rest_in x y xs ys first a f) (rest_in y x ys xs (sym first) b g))
    where
      later : Contains ys x → Contains xs y → x ≡ y
      later c d =
          neither_before x y (h x (contains_first x xs)) (h y (contains_rest x xs y d)) (head_before y ys b x c).1 (head_before x xs a y d).1

      first : x ≡ y
      first =
          ⊎_elim (λ e. sym e) (λ c. ⊎_elim (λ e. e) (λ d. later c d) (contains_cases x xs y (g y (contains_first y ys))))
          (contains_cases y ys x (f x (contains_first x xs)))

pub one_list : NeededListIsOne
one_list os roots functions formed a b are others =
    same_list os a b are.ascends others.ascends (λ t c. needed_functions os functions roots formed (are.needed t c))
    (λ t c. others.all t (are.needed t c)) (λ t c. are.all t (others.needed t c))
