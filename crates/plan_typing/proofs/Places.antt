-- Places of needed Skolem terms in their order.
use Rattle.std.proofs.Common.{◌≡◌, ◌<◌, ◌≤◌, ◌+◌, ℕ, zero, suc, nat_lt, Bool, true, false, List, [], ◌∷◌, cond, get_or, length, None, Some, refl, sym, ap, subst, ◌∙◌, inl, inr, arith, not}
use Rattle.std.specs.Prelude.{IsTrue, unwrap_or}
use Rattle.std.specs.List.{Contains, position_or_len}
use Rattle.std.specs.declared.cmp.Ordering.{Ordering}
use Rattle.std.specs.declared.cmp.Ordering.TheVariants.{Equal, Greater, Less}
use Rattle.std.proofs.lemmas.Bool.{cases_Bool}
use Rattle.std.proofs.lemmas.Cmp.{tied_itself}
use Rattle.std.proofs.lemmas.List.Elements.{Contains-get_or}
use Rattle.std.proofs.lemmas.List.{get_or_default}
use Rattle.dk_syntax.specs.Lists.{Entry, entry_here, entry_later}
use Rattle.dk_syntax.specs.Order.{order_of}
use Rattle.dk_syntax.specs.WellFormed.{well_formed_term}
use Rattle.dk_syntax.specs.declared.term.Term.{Any, Term}
use Rattle.expansion.specs.Rows.{term_at}
use Rattle.nd_term.specs.Outputs.{is_equal, place_of}
use Rattle.skolem_order.proofs.FunctionTerms.{needed_functions}
use Rattle.skolem_order.proofs.PlaceLaws.{place_of_term, stands_earlier}
use Rattle.skolem_order.proofs.TermOrders.{HasFunctions, order_total, tied_is_one}
use Rattle.skolem_order.specs.Order.{AreNeeded, IsPlaceOf, Mentions, Needed}
use Rattle.skolem_order.specs.Rooted.{AreRooted, HaveFunctions, IsSized}
use Rattle.skolem_order.specs.declared.origins.Origin.{Origin}

-- ---- the first that passes

-- where one at a place passes, the first that passes is there or before
record IsFirst {A : Type 0} (p : A → Bool) (xs : List A) (k : ℕ) (d : A) (place : ℕ) : Type 0 where
  before : place ≤ k
  passes : p (get_or xs place d) ≡ true

first_is : {A : Type 0} (p : A → Bool) (xs : List A) (k : ℕ) (d : A) → k < length xs → p (get_or xs k d) ≡ true → IsFirst p xs k d (position_or_len p xs)
first_is p [] k d below e = absurd (omega (arith, below))
first_is p (x ∷ xs) zero d below e =
    subst (IsFirst p (x ∷ xs) 0 d) (sym (ap (λ b. cond (not b) (1 + position_or_len p xs) 0) e)) (record { before = omega arith; passes = e })
first_is p (x ∷ xs) (suc k) d below e = by_test (p x) refl (first_is p xs k d (omega (arith, below)) e)
  where
    by_test : (b : Bool) → p x ≡ b → IsFirst p xs k d (position_or_len p xs) → IsFirst p (x ∷ xs) (suc k) d (position_or_len p (x ∷ xs))
    by_test true f rest =
        subst (IsFirst p (x ∷ xs) (suc k) d) (sym (ap (λ b. cond (not b) (1 + position_or_len p xs) 0) f)) (record { before = omega arith; passes = f })
    by_test false f rest =
        let q : 1 + position_or_len p xs ≡ suc (position_or_len p xs) = omega arith in
        subst (IsFirst p (x ∷ xs) (suc k) d) (sym (ap (λ b. cond (not b) (1 + position_or_len p xs) 0) f ∙ q))
        (record { before = (let h = rest.before in omega (arith, h)); passes = rest.passes })

entry_of : {A : Type 0} (xs : List A) (k : ℕ) (d : A) → k < length xs → Entry xs k (get_or xs k d)
entry_of [] k d below = absurd (omega (arith, below))
entry_of (x ∷ xs) zero d below = entry_here x xs
entry_of (x ∷ xs) (suc k) d below = entry_later x (entry_of xs k d (omega (arith, below)))

-- ---- places of terms

equal_is : (o : Ordering) → is_equal o ≡ true → o ≡ Equal
equal_is Less e = absurd cc
equal_is Equal e = refl
equal_is Greater e = absurd cc

equal_itself : (t : Term) → is_equal (order_of t t) ≡ true
equal_itself t = ap is_equal (tied_itself order_total t)

-- where the term stands at a place, its place in the list is that or before, and a term that ties with it stands there
record IsPlaced (list : List Term) (t : Term) (k : ℕ) : Type 0 where
  before : place_of list t ≤ k
  tied : order_of (term_at list (place_of list t)) t ≡ Equal

placed_at : (list : List Term) (t : Term) (k : ℕ) → k < length list → term_at list k ≡ t → IsPlaced list t k
placed_at list t k below here =
    let first = first_is (λ u. is_equal (order_of u t)) list k Any below (subst (λ u. is_equal (order_of u t) ≡ true) (sym here) (equal_itself t)) in
    let place = position_or_len (λ u. is_equal (order_of u t)) list in
    let h = first.before in
    let test : nat_lt place (length list) ≡ true = (let less : place < length list = omega (arith, h, below) in grind (arith, less)) in
    let is : place_of list t ≡ place = ap (λ b. unwrap_or (cond b (Some place) None) (length list)) test in
    record {
      before = subst (λ n. n ≤ k) (sym is) h;
      tied = ap (λ n. order_of (term_at list n) t) is ∙ equal_is (order_of (term_at list place) t) first.passes;
    }

module _ (origins : List Origin) (roots order : List Term) (functions : HaveFunctions origins) (formed : (t : Term) → Contains roots t → IsTrue (well_formed_term t))
    (needed : AreNeeded origins roots order) where
  has_functions : (t : Term) → Contains order t → HasFunctions t
  has_functions t c = needed_functions origins functions roots formed (needed.needed t c)

  stands : (t : Term) → Contains order t → (k : ℕ) × (k < length order) × (term_at order k ≡ t)
  stands t c = (c.0, c.1, get_or_default order c.0 Any t c.1 ∙ c.2)

  -- a needed term stands at its place
  pub placed : (t : Term) → Needed origins roots t → Entry order (place_of order t) t
  placed t n =
      let c = needed.all t n in
      let at = stands t c in
      let p = placed_at order t at.0 at.1 at.2 in
      let before = p.before in
      let less : place_of order t < length order = (let l = at.1 in omega (arith, before, l)) in
      let u = term_at order (place_of order t) in
      let same : u ≡ t = tied_is_one u t (has_functions u (Contains-get_or order (place_of order t) Any less)) (has_functions t c) p.tied in
      subst (Entry order (place_of order t)) same (entry_of order (place_of order t) Any less)

  -- what it mentions has an earlier place
  pub earlier_place : AreRooted origins → ((t : Term) → Needed origins roots t → IsSized origins t)
      → (t s : Term) (n : ℕ) → n < length order → term_at order n ≡ t → Mentions origins t s → place_of order s < n
  earlier_place rooted sized t s n below here m =
      let c = subst (Contains order) here (Contains-get_or order n Any below) in
      let mine = place_of_term origins order needed.ascends t c in
      let its = stands_earlier origins roots order rooted sized needed t s mine.0 mine.1 m in
      let p = placed_at order s its.0 its.1.within its.1.here in
      let first : mine.0 ≤ n = no_later mine.0 mine.1 in
      let a = p.before in
      let b = its.2 in
      omega (arith, a, b, first)
    where
      no_later : (k : ℕ) → IsPlaceOf order t k → k ≤ n
      no_later k is = elim (cases_Bool (nat_lt n k)) [
        | inl h ↦ absurd (is.first n (let l : n < k = grind (arith, h) in l) here)
        | inr h ↦ (let l : k ≤ n = grind (arith, h) in l)
      ]
