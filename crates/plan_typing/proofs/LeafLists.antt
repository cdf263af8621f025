-- Places of items in lists.
use Rattle.std.proofs.Common.{◌≡◌, ◌<◌, ◌+◌, ℕ, zero, suc, nat_lt, Bool, true, false, not, ◌||◌, cond, List, [], ◌∷◌, ◌++◌, map, find, length, slice_get, Some, None, refl, sym, ap, ◌∙◌, subst, inl, inr, arith}
use Rattle.std.specs.Prelude.{unwrap_or}
use Rattle.std.specs.List.{list_any, position, position_or_len}
use Rattle.std.proofs.lemmas.Bool.Decides.{nat_tests}
use Rattle.std.proofs.lemmas.Option.{same_Some, slice_get_within}
use Rattle.dk_syntax.specs.Lists.{Entry, Every, entry_here, entry_later, every_cons, every_nil}
use Rattle.plan.proofs.Membership.{Among}

-- ---- entries

pub entry_got : {A : Type 0} (l : List A) (k : ℕ) (x : A) → slice_get l k ≡ Some x → Entry l k x
entry_got [] k x h = absurd cc
entry_got (y ∷ l) zero x h = subst (λ z. Entry (y ∷ l) zero z) (same_Some y x h) (entry_here y l)
entry_got (y ∷ l) (suc k) x h = entry_later y (entry_got l k x h)

pub entry_put : {A B : Type 0} (f : A → B) (l : List A) (k : ℕ) (x : A) → slice_get l k ≡ Some x → Entry (map f l) k (f x)
entry_put f [] k x h = absurd cc
entry_put f (y ∷ l) zero x h = subst (λ z. Entry (f y ∷ map f l) zero (f z)) (same_Some y x h) (entry_here (f y) (map f l))
entry_put f (y ∷ l) (suc k) x h = entry_later (f y) (entry_put f l k x h)

pub got_put : {A B : Type 0} (f : A → B) (l : List A) (k : ℕ) (x : A) → slice_get l k ≡ Some x → slice_get (map f l) k ≡ Some (f x)
got_put f [] k x h = absurd cc
got_put f (y ∷ l) zero x h = ap Some (ap f (same_Some y x h))
got_put f (y ∷ l) (suc k) x h = got_put f l k x h

pub every_among : {A : Type 0} {p : A → Type 0} {x : A} (l : List A) → Every p l → Among l x → p x
every_among [] every_nil h = absurd h
every_among {p = p} (y ∷ l) (every_cons w ws) (inl e) = subst p e w
every_among (y ∷ l) (every_cons w ws) (inr h) = every_among l ws h

pub among_every : {A : Type 0} (p : A → Type 0) (l : List A) → ((x : A) → Among l x → p x) → Every p l
among_every p [] h = every_nil
among_every p (y ∷ l) h = every_cons (h y (inl refl)) (among_every p l (λ x k. h x (inr k)))

-- ---- the first item that passes a test

place_read : {A : Type 0} (test : A → Bool) (l : List A) (none : ℕ) → position_or_len test l < length l → unwrap_or (position test l) none ≡ position_or_len test l
place_read test l none h =
    let e : nat_lt (position_or_len test l) (length l) ≡ true = grind (arith, nat_tests) in
    ap (λ b. unwrap_or (cond b (Some (position_or_len test l)) None) none) e

place_here : {A : Type 0} (test : A → Bool) (y : A) (l : List A) → test y ≡ true → position_or_len test (y ∷ l) ≡ 0
place_here test y l e = ap (λ b. cond (not b) (1 + position_or_len test l) 0) e

place_later : {A : Type 0} (test : A → Bool) (y : A) (l : List A) → test y ≡ false → position_or_len test (y ∷ l) ≡ suc (position_or_len test l)
place_later test y l e =
    let s : 1 + position_or_len test l ≡ suc (position_or_len test l) = omega arith in
    ap (λ b. cond (not b) (1 + position_or_len test l) 0) e ∙ s

-- ---- items that are found

none_found : {A : Type 0} (test : A → Bool) (l : List A) (x : A) → find test l ≡ Some x → list_any test l ≡ false → ⊥
none_found test [] x h none = cc
none_found test (y ∷ l) x h none = by_test (test y) h none (λ k m. none_found test l x k m)
  where
    by_test : (b : Bool) → cond b (Some y) (find test l) ≡ Some x → (b || list_any test l) ≡ false → (find test l ≡ Some x → list_any test l ≡ false → ⊥) → ⊥
    by_test true k m more = cc
    by_test false k m more = more k m

got_first : {A : Type 0} (test : A → Bool) (l rest : List A) (x : A) → find test (l ++ rest) ≡ Some x → list_any test rest ≡ false → slice_get l (position_or_len test l) ≡ Some x
got_first test [] rest x h none = absurd (none_found test rest x h none)
got_first test (y ∷ l) rest x h none = by_test (test y) refl h (λ k. got_first test l rest x k none)
  where
    by_test : (b : Bool) → test y ≡ b → cond b (Some y) (find test (l ++ rest)) ≡ Some x → (find test (l ++ rest) ≡ Some x → slice_get l (position_or_len test l) ≡ Some x)
        → slice_get (y ∷ l) (position_or_len test (y ∷ l)) ≡ Some x
    by_test true e k more = ap (slice_get (y ∷ l)) (place_here test y l e) ∙ k
    by_test false e k more = ap (slice_get (y ∷ l)) (place_later test y l e) ∙ more k

-- an item that is found, and is none of the last ones, stands at the first place that passes
pub got_placed : {A : Type 0} (test : A → Bool) (l rest : List A) (none : ℕ) (x : A) → find test (l ++ rest) ≡ Some x → list_any test rest ≡ false
    → slice_get l (unwrap_or (position test l) none) ≡ Some x
got_placed test l rest none x h k =
    let e = got_first test l rest x h k in
    ap (slice_get l) (place_read test l none (slice_get_within l (position_or_len test l) x e)) ∙ e

-- an item that is found stands at a place and passes
pub found_place : {A : Type 0} (test : A → Bool) (l : List A) (x : A) → find test l ≡ Some x → (k : ℕ) × (slice_get l k ≡ Some x) × (test x ≡ true)
found_place test [] x h = absurd cc
found_place test (y ∷ l) x h = by_test (test y) refl h (λ k. found_place test l x k)
  where
    by_test : (b : Bool) → test y ≡ b → cond b (Some y) (find test l) ≡ Some x → (find test l ≡ Some x → (k : ℕ) × (slice_get l k ≡ Some x) × (test x ≡ true))
        → (k : ℕ) × (slice_get (y ∷ l) k ≡ Some x) × (test x ≡ true)
    by_test true e k more = (0, k, ap test (sym (same_Some y x k)) ∙ e)
    by_test false e k more = let r = more k in (suc r.0, r.1, r.2)

-- the item after all those of the first list
pub last_place : {A : Type 0} (l : List A) (x : A) → slice_get (l ++ x ∷ []) (length l) ≡ Some x
last_place [] x = refl
last_place (y ∷ l) x = last_place l x
