-- The instances that an instance needs stand before it, each at the place of its number.
use Rattle.std.proofs.Common.{◌≡◌, ◌⊎◌, ℕ, zero, suc, List, [], ◌∷◌, ◌++◌, map, Some, slice_get, arith, refl, sym, ap, ◌∙◌, subst, inl, inr}
use Rattle.std.proofs.lemmas.List.{map-append}
use Rattle.std.proofs.lemmas.List.Elements.{Contains-append_left, Contains-push}
use Rattle.std.specs.List.{All, Contains}
use Rattle.dk_syntax.specs.Lists.{Each, Entry, Every, each_cons, each_nil, entry_here, entry_later, every_cons, every_nil}
use Rattle.dk_syntax.specs.declared.clause.Literal.{Literal}
use Rattle.ground_instances.proofs.OneVisit.{one_needs}
use Rattle.ground_instances.specs.Instances.{AreInstances, AreNumbers, clauses_in, IsInstance, key_of, keys_of}
use Rattle.ground_instances.specs.Keys.{Judged, Key, key}
use Rattle.ground_instances.specs.Laws.{IsGroundClause}
use Rattle.ground_instances.specs.Needs.{done, fresh, Needs, seen, Visits}
use Rattle.ground_instances.specs.declared.instance.Instance.{Instance}
use Rattle.plan.proofs.Membership.{Among, among}
use Rattle.plan.proofs.Visited.{AreOnce, one_place, visited_once}
use Rattle.plan_typing.proofs.Picked.{entry_mapped}

-- ---- lists that grow at the end

not_nil : {A : Type 0} (front back : List A) (a : A) → [] ≡ front ++ a ∷ back → ⊥
not_nil [] back a e = cc
not_nil (b ∷ front) back a e = cc

last_or_before : {A : Type 0} (list front back : List A) (a b : A) → list ++ a ∷ [] ≡ front ++ b ∷ back
    → ((list ≡ front) × (a ≡ b)) ⊎ ((rest : List A) × (list ≡ front ++ b ∷ rest))
last_or_before [] [] back a b e = inl (refl, cc)
last_or_before [] (f ∷ front) back a b e = absurd (not_nil front back b cc)
last_or_before (c ∷ list) [] back a b e = inr (list, cc)
last_or_before (c ∷ list) (f ∷ front) back a b e =
    let tail : list ++ a ∷ [] ≡ front ++ b ∷ back = cc in
    elim (last_or_before list front back a b tail) [
      | inl w ↦ let same = w.0 in inl (cc, w.1)
      | inr w ↦ let same = w.1 in inr (w.0, cc)
    ]

-- ---- the order of visits

module _ (judged : Judged) where
  -- what each key of the list needs stands before it
  abbrev pub IsInOrder : List Key → Type 0
  IsInOrder list = (front back : List Key) (one : Key) → list ≡ front ++ one ∷ back → (needed : List Key) × Needs judged one needed × Every (Contains front) needed

  visit_keeps : {list keys after : List Key} → Visits judged list keys after → (one : Key) → Contains list one → Contains after one
  visit_keeps (done l) one h = h
  visit_keeps (seen l k ks a there v) one h = visit_keeps v one h
  visit_keeps (fresh l k ks needs m a new has first v) one h = visit_keeps v one (Contains-append_left m (k ∷ []) one (visit_keeps first one h))

  visit_reaches : {list keys after : List Key} → Visits judged list keys after → Every (Contains after) keys
  visit_reaches (done l) = every_nil
  visit_reaches (seen l k ks a there v) = every_cons (visit_keeps v k there) (visit_reaches v)
  visit_reaches (fresh l k ks needs m a new has first v) = every_cons (visit_keeps v k (Contains-push m k)) (visit_reaches v)

  one_more_in_order : (list : List Key) (one : Key) (needs : List Key) → IsInOrder list → Needs judged one needs → Every (Contains list) needs → IsInOrder (list ++ one ∷ [])
  one_more_in_order list one needs order has ready front back other e = elim (last_or_before list front back one other e) [
    | inl w ↦ (needs, subst (λ s. Needs judged s needs) w.1 has, subst (λ l. Every (Contains l) needs) w.0 ready)
    | inr w ↦ order front w.0 other w.1
  ]

  visit_in_order : {list keys after : List Key} → Visits judged list keys after → IsInOrder list → IsInOrder after
  visit_in_order (done l) order = order
  visit_in_order (seen l k ks a there v) order = visit_in_order v order
  visit_in_order (fresh l k ks needs m a new has first v) order =
      visit_in_order v (one_more_in_order m k needs (visit_in_order first order) has (visit_reaches first))

  pub visits_in_order : {keys after : List Key} → Visits judged [] keys after → IsInOrder after
  visits_in_order v = visit_in_order v (λ front back one e. absurd (not_nil front back one e))

  visit_done : {list after : List Key} → Visits judged list [] after → after ≡ list
  visit_done (done l) = refl

  none_there : (one : Key) → Contains [] one → ⊥
  none_there one h = omega (arith, h.1)

  pub root_last : {root : Key} {after : List Key} → Visits judged [] (root ∷ []) after → (front : List Key) × (after ≡ front ++ root ∷ [])
  root_last (seen l k ks a there v) = absurd (none_there k there)
  root_last (fresh l k ks needs m a new has first v) = (m, visit_done v)

-- ---- places

place_before : {A : Type 0} (front back : List A) (k : ℕ) (x : A) → Entry front k x → slice_get (front ++ back) k ≡ Some x
place_before _ back zero x (entry_here _ l) = refl
place_before _ back (suc k) x (entry_later {l = l} b i) = place_before l back k x i

entry_among : {A : Type 0} (xs : List A) (x : A) → Among xs x → (k : ℕ) × Entry xs k x
entry_among [] x h = absurd h
entry_among (y ∷ xs) x (inl e) = (zero, subst (λ z. Entry (y ∷ xs) zero z) e (entry_here y xs))
entry_among (y ∷ xs) x (inr h) = let r = entry_among xs x h in (suc r.0, entry_later y r.1)

entry_unmapped : {A B : Type 0} (f : A → B) (xs : List A) (k : ℕ) (y : B) → Entry (map f xs) k y → (x : A) × Entry xs k x × (f x ≡ y)
entry_unmapped f [] k y i = elim i [ ]
entry_unmapped f (x ∷ xs) zero y (entry_here _ _) = (x, entry_here x xs, refl)
entry_unmapped f (x ∷ xs) (suc k) y (entry_later _ i) = let r = entry_unmapped f xs k y i in (r.0, entry_later x r.1, r.2)

pub entry_in : {A : Type 0} (front : List A) (a : A) (back : List A) → (k : ℕ) × Entry (front ++ a ∷ back) k a
entry_in [] a back = (zero, entry_here a back)
entry_in (b ∷ front) a back = let r = entry_in front a back in (suc r.0, entry_later b r.1)

-- what stands in the front has its number there
number_before : (front back : List Key) (one : Key) (n : ℕ) → AreOnce (front ++ back) → Contains front one → slice_get (front ++ back) n ≡ Some one → Entry front n one
number_before front back one n once there at =
    let found = entry_among front one (among front one there) in
    let same : found.0 ≡ n = one_place (front ++ back) once found.0 n one (place_before front back found.0 one found.1) at in
    subst (λ k. Entry front k one) same found.1

numbers_before : (front back : List Key) → AreOnce (front ++ back) → (needed : List Key) (numbers : List ℕ) → AreNumbers (front ++ back) needed numbers → Every (Contains front) needed
    → Each (λ one n. Entry front n one) needed numbers
numbers_before front back once [] [] are ready = each_nil
numbers_before front back once [] (n ∷ numbers) are ready = absurd are
numbers_before front back once (one ∷ needed) [] are ready = absurd are
numbers_before front back once (one ∷ needed) (n ∷ numbers) are (every_cons there ready) =
    each_cons (number_before front back one n once there are.0) (numbers_before front back once needed numbers are.1 ready)

-- ---- instances

all_at : {A : Type 0} (P : A → Type 0) {xs : List A} {k : ℕ} {x : A} → All P xs → Entry xs k x → P x
all_at P {x = x} all (entry_here _ l) = all zero x (omega arith)
all_at P {x = x} all (entry_later {l = l} b i) = all_at P (λ j d less. all (suc j) d (omega (arith, less))) i

module _ (judged : Judged) (root : ℕ) (instances : List Instance) (are : AreInstances judged root instances) where
  -- an instance has its ground clause
  pub ground_of : (k : ℕ) (it : Instance) → Entry instances k it → IsGroundClause judged (key_of it) it.lits
  ground_of k it i =
      let is = all_at (IsInstance judged (keys_of instances)) are.each i in record { clause = is.clause; of = is.of; each = is.each; is = is.lits }

  -- the ground clauses of what an instance needs stand before it, at the numbers
  pub record AreReady (front : List Instance) (it : Instance) : Type 0 where
    pub needed : List Key
    pub needs : Needs judged (key_of it) needed
    pub ground : IsGroundClause judged (key_of it) it.lits
    pub parents : List (List Literal)
    pub known : Each (λ n m. Entry (clauses_in front) n m) it.needs parents
    pub are_ground : Each (IsGroundClause judged) needed parents

  parents_at : (front : List Instance) → ((k : ℕ) (it : Instance) → Entry front k it → IsGroundClause judged (key_of it) it.lits) → {needed : List Key} {numbers : List ℕ}
      → Each (λ one n. Entry (keys_of front) n one) needed numbers
      → (parents : List (List Literal)) × Each (λ n m. Entry (clauses_in front) n m) numbers parents × Each (IsGroundClause judged) needed parents
  parents_at front grounds each_nil = ([], each_nil, each_nil)
  parents_at front grounds (each_cons {a = one} {b = n} i is) =
      let rest = parents_at front grounds is in
      let w = entry_unmapped key_of front n one i in (
        w.0.lits ∷ rest.0,
        each_cons (entry_mapped (λ (x : Instance). x.lits) w.1) rest.1,
        each_cons (subst (λ k. IsGroundClause judged k w.0.lits) w.2 (grounds n w.0 w.1)) rest.2,
      )

  entry_left : {A : Type 0} {front : List A} {k : ℕ} {a : A} (back : List A) → Entry front k a → Entry (front ++ back) k a
  entry_left back (entry_here a l) = entry_here a (l ++ back)
  entry_left back (entry_later b i) = entry_later b (entry_left back i)

  pub ready : (front back : List Instance) (it : Instance) → instances ≡ front ++ it ∷ back → AreReady front it
  ready front back it e =
      let keys : keys_of instances ≡ keys_of front ++ key_of it ∷ keys_of back = ap keys_of e ∙ map-append key_of front (it ∷ back) in
      let here = entry_in front it back in
      let at : Entry instances here.0 it = subst (λ l. Entry l here.0 it) (sym e) here.1 in
      let is = all_at (IsInstance judged (keys_of instances)) are.each at in
      let order = visits_in_order judged are.needed (keys_of front) (keys_of back) (key_of it) keys in
      let same : order.0 ≡ is.needed = one_needs judged order.1 is.needed is.needs in
      let once = subst AreOnce keys (visited_once judged are.needed) in
      let numbers = numbers_before (keys_of front) (key_of it ∷ keys_of back) once is.needed it.needs
      (subst (λ l. AreNumbers l is.needed it.needs) keys is.numbers) (subst (λ l. Every (Contains (keys_of front)) l) same order.2) in
      let w = parents_at front (λ k other i. ground_of k other (subst (λ l. Entry l k other) (sym e) (entry_left (it ∷ back) i))) numbers in
      record { needed = is.needed; needs = is.needs; ground = ground_of here.0 it at; parents = w.0; known = w.1; are_ground = w.2 }

  last_mapped : {A B : Type 0} (f : A → B) (xs : List A) (ys : List B) (y : B) → map f xs ≡ ys ++ y ∷ [] → (front : List A) × (x : A) × (xs ≡ front ++ x ∷ []) × (f x ≡ y)
  last_mapped f [] ys y e = absurd (not_nil ys [] y e)
  last_mapped f (x ∷ []) [] y e = ([], x, refl, cc)
  last_mapped f (x ∷ z ∷ xs) [] y e = absurd (cc)
  last_mapped f (x ∷ xs) (b ∷ ys) y e =
      let tail : map f xs ≡ ys ++ y ∷ [] = cc in
      let r = last_mapped f xs ys y tail in (x ∷ r.0, r.1, ap (λ l. x ∷ l) r.2, r.3)

  -- the last instance is that of the root's empty clause
  pub ends_in_root : (front : List Instance) × (it : Instance) × (instances ≡ front ++ it ∷ []) × (key_of it ≡ key root 0 0 [])
  ends_in_root = let last = root_last judged are.needed in last_mapped key_of instances last.0 (key root 0 0 []) last.1
