-- Literals each once, one after another.
use Rattle.std.proofs.Common.{◌≡◌, ◌≤◌, ℕ, zero, suc, ◌+◌, Bool, true, false, List, [], ◌∷◌, ◌++◌, take, length, Some, None, get_or, slice_get, Contains, refl, sym, ap, ap₂, ◌∙◌, subst, arith, append_assoc}
use Rattle.dk_syntax.specs.declared.Literal.{Literal}
use Rattle.step_chain.proofs.Items.{same_some}
use Rattle.step_chain.specs.Resolvents.{again, IsOnce, kept, new, none}
use Rattle.step_chain.specs.Resolving.{AreAddedOnce, AreContained, AreInstancePicks}

-- ---- what a list contains

pub contains_left : {A : Type 0} (xs ys : List A) (x : A) → Contains xs x → Contains (xs ++ ys) x
contains_left [] ys x (k, less, is) = absurd (omega (arith, less))
contains_left (y ∷ xs) ys x (zero, less, is) = (zero, omega arith, is)
contains_left (y ∷ xs) ys x (suc k, less, is) = let w = contains_left xs ys x (k, omega (arith, less), is) in (suc w.0, omega (arith, w.1), w.2)

pub contains_right : {A : Type 0} (xs ys : List A) (x : A) → Contains ys x → Contains (xs ++ ys) x
contains_right [] ys x h = h
contains_right (y ∷ xs) ys x h = let w = contains_right xs ys x h in (suc w.0, omega (arith, w.1), w.2)

pub contains_one : {A : Type 0} (x : A) → Contains (x ∷ []) x
contains_one x = (zero, omega arith, refl)

pub contains_at : {A : Type 0} (xs : List A) (k : ℕ) (x : A) → slice_get xs k ≡ Some x → Contains xs x
contains_at [] k x h = absurd (let w : None ≡ Some x = h in cc)
contains_at (y ∷ xs) zero x h = (zero, omega arith, same_some (Some y) y x refl h)
contains_at (y ∷ xs) (suc k) x h = let w = contains_at xs k x h in (suc w.0, omega (arith, w.1), w.2)

pub at_contains : {A : Type 0} (xs : List A) (x : A) → Contains xs x → (k : ℕ) × (slice_get xs k ≡ Some x)
at_contains [] x (k, less, is) = absurd (omega (arith, less))
at_contains (y ∷ xs) x (zero, less, is) = (zero, ap Some is)
at_contains (y ∷ xs) x (suc k, less, is) = let w = at_contains xs x (k, omega (arith, less), is) in (suc w.0, w.1)

-- ---- each once

once_append : {seen xs a : List Literal} → IsOnce seen xs a → (ys b : List Literal) → IsOnce (seen ++ a) ys b → IsOnce seen (xs ++ ys) (a ++ b)
once_append (none seen) ys b h = subst (λ z. IsOnce z ys b) (append_nothing seen) h
  where
    append_nothing : (l : List Literal) → l ++ [] ≡ l
    append_nothing [] = refl
    append_nothing (x ∷ l) = ap (λ z. x ∷ z) (append_nothing l)
once_append (again seen x rest once there w) ys b h = again seen x (rest ++ ys) (once ++ b) there (once_append w ys b h)
once_append (new seen x rest once absent w) ys b h = new seen x (rest ++ ys) (once ++ b) absent (once_append w ys b (subst (λ z. IsOnce z ys b) (sym (append_assoc seen (x ∷ []) once)) h))

pub once_contains : {seen xs a : List Literal} → IsOnce seen xs a → (x : Literal) → Contains xs x → Contains (seen ++ a) x
once_contains (none seen) x (k, less, is) = absurd (omega (arith, less))
once_contains (again seen y rest once there w) x (zero, less, is) = contains_left seen once x (subst (Contains seen) is there)
once_contains (again seen y rest once there w) x (suc k, less, is) = once_contains w x (k, omega (arith, less), is)
once_contains (new seen y rest once absent w) x (zero, less, is) = contains_right seen (y ∷ once) x (subst (Contains (y ∷ once)) is (zero, omega arith, refl))
once_contains (new seen y rest once absent w) x (suc k, less, is) = subst (λ z. Contains z x) (append_assoc seen (y ∷ []) once) (once_contains w x (k, omega (arith, less), is))

pub adds_start : (old : List Literal) → AreAddedOnce old [] old
adds_start old = ([], none old, append_nothing old)
  where
    append_nothing : (l : List Literal) → l ≡ l ++ []
    append_nothing [] = refl
    append_nothing (x ∷ l) = ap (λ z. x ∷ z) (append_nothing l)

pub adds_new : (old xs all : List Literal) (x : Literal) → AreAddedOnce old xs all → (Contains all x → ⊥) → AreAddedOnce old (xs ++ x ∷ []) (all ++ x ∷ [])
adds_new old xs all x h absent =
    let absent' : Contains (old ++ h.0) x → ⊥ = subst (λ z. Contains z x → ⊥) h.2 absent in
    (h.0 ++ x ∷ [], once_append h.1 (x ∷ []) (x ∷ []) (new (old ++ h.0) x [] [] absent' (none ((old ++ h.0) ++ x ∷ []))), ap (λ z. z ++ x ∷ []) h.2 ∙ append_assoc old h.0 (x ∷ []))

pub adds_again : (old xs all : List Literal) (x : Literal) → AreAddedOnce old xs all → Contains all x → AreAddedOnce old (xs ++ x ∷ []) all
adds_again old xs all x h there =
    (h.0, subst (IsOnce old (xs ++ x ∷ [])) (nothing_after h.0) (once_append h.1 (x ∷ []) [] (again (old ++ h.0) x [] [] (subst (λ z. Contains z x) h.2 there) (none (old ++ h.0)))), h.2)
  where
    nothing_after : (l : List Literal) → l ++ [] ≡ l
    nothing_after [] = refl
    nothing_after (y ∷ l) = ap (λ z. y ∷ z) (nothing_after l)

adds_then : (old xs mid ys all : List Literal) → AreAddedOnce old xs mid → AreAddedOnce mid ys all → AreAddedOnce old (xs ++ ys) all
adds_then old xs mid ys all h k =
    (h.0 ++ k.0, once_append h.1 ys k.0 (subst (λ z. IsOnce z ys k.0) h.2 k.1), k.2 ∙ ap (λ z. z ++ k.0) h.2 ∙ append_assoc old h.0 k.0)

pub adds_both : (xs a ys b : List Literal) → AreAddedOnce [] xs a → AreAddedOnce a ys b → IsOnce [] (xs ++ ys) b
adds_both xs a ys b h k = subst (IsOnce [] (xs ++ ys)) (sym (k.2 ∙ ap (λ z. z ++ k.0) h.2)) (once_append h.1 ys k.0 (subst (λ z. IsOnce z ys k.0) h.2 k.1))

each_contained : (lits xs : List Literal) → ((x : Literal) → Contains xs x → Contains lits x) → AreContained lits xs
each_contained lits [] h k d less = absurd (omega arith)
each_contained lits (x ∷ xs) h zero d less = h x (zero, omega arith, refl)
each_contained lits (x ∷ xs) h (suc k) d less = each_contained lits xs (λ y w. h y (suc w.0, omega (arith, w.1), w.2)) k d (omega arith)

pub adds_contained : (old xs all : List Literal) → AreAddedOnce old xs all → AreContained all xs
adds_contained old xs all h = each_contained all xs (λ x w. subst (λ z. Contains z x) (sym h.2) (once_contains h.1 x w))

pub contained_later : (old xs all zs : List Literal) → AreAddedOnce old xs all → AreContained old zs → AreContained all zs
contained_later old xs all zs h c k d less = subst (λ z. Contains z (get_or zs k d)) (sym h.2) (contains_left old h.0 (get_or zs k d) (c k d less))

-- ---- along a list

kept_next : (literals : List Literal) (taken : List Bool) (k : ℕ) (x : Literal) (b : Bool) → slice_get literals k ≡ Some x → slice_get taken k ≡ Some b
    → kept (take (suc k) literals) (take (suc k) taken) ≡ kept (take k literals) (take k taken) ++ kept (x ∷ []) (b ∷ [])
kept_next [] taken k x b at is = absurd (let w : None ≡ Some x = at in cc)
kept_next (y ∷ literals) [] k x b at is = absurd (let w : None ≡ Some b = is in cc)
kept_next (y ∷ literals) (c ∷ taken) zero x b at is =
    ap₂ (λ l t. kept (l ∷ []) (t ∷ [])) (same_some (Some y) y x refl at) (same_some (Some c) c b refl is)
kept_next (y ∷ literals) (true ∷ taken) (suc k) x b at is = kept_next literals taken k x b at is
kept_next (y ∷ literals) (false ∷ taken) (suc k) x b at is = ap (λ z. y ∷ z) (kept_next literals taken k x b at is)

pub adds_next : (old mid all literals : List Literal) (taken : List Bool) (k : ℕ) (x : Literal) (b : Bool) → slice_get literals k ≡ Some x → slice_get taken k ≡ Some b
    → AreAddedOnce old (kept (take k literals) (take k taken)) mid → AreAddedOnce mid (kept (x ∷ []) (b ∷ [])) all → AreAddedOnce old (kept (take (k + 1) literals) (take (k + 1) taken)) all
adds_next old mid all literals taken k x b at is h w =
    let e : suc k ≡ k + 1 = omega arith in
    subst (λ z. AreAddedOnce old (kept (take z literals) (take z taken)) all) e
    (subst (λ z. AreAddedOnce old z all) (sym (kept_next literals taken k x b at is)) (adds_then old (kept (take k literals) (take k taken)) mid (kept (x ∷ []) (b ∷ [])) all h w))

pub adds_taken : (old : List Literal) (x : Literal) (b : Bool) → b ≡ true → AreAddedOnce old (kept (x ∷ []) (b ∷ [])) old
adds_taken old x b e = subst (λ z. AreAddedOnce old (kept (x ∷ []) (z ∷ [])) old) (sym e) (adds_start old)

pub adds_there : (old : List Literal) (x : Literal) (b : Bool) → b ≡ false → Contains old x → AreAddedOnce old (kept (x ∷ []) (b ∷ [])) old
adds_there old x b e there = subst (λ z. AreAddedOnce old (kept (x ∷ []) (z ∷ [])) old) (sym e) (adds_again old [] old x (adds_start old) there)

pub adds_other : (old : List Literal) (x : Literal) (b : Bool) → b ≡ false → (Contains old x → ⊥) → AreAddedOnce old (kept (x ∷ []) (b ∷ [])) (old ++ x ∷ [])
adds_other old x b e absent = subst (λ z. AreAddedOnce old (kept (x ∷ []) (z ∷ [])) (old ++ x ∷ [])) (sym e) (adds_new old [] old x (adds_start old) absent)

pub kept_all : (literals : List Literal) (taken : List Bool) (k : ℕ) → length literals ≤ k → length taken ≡ length literals → kept (take k literals) (take k taken) ≡ kept literals taken
kept_all [] taken k less long = by_number k
  where
    by_number : (k : ℕ) → kept (take k []) (take k taken) ≡ []
    by_number zero = refl
    by_number (suc k) = refl
kept_all (x ∷ literals) [] k less long = absurd (omega arith)
kept_all (x ∷ literals) (b ∷ taken) zero less long = absurd (omega arith)
kept_all (x ∷ literals) (true ∷ taken) (suc k) less long = kept_all literals taken k (omega arith) (omega arith)
kept_all (x ∷ literals) (false ∷ taken) (suc k) less long = ap (λ z. x ∷ z) (kept_all literals taken k (omega arith) (omega arith))

pub kept_at : (lits literals : List Literal) (taken : List Bool) (k : ℕ) (x : Literal) → slice_get literals k ≡ Some x → slice_get taken k ≡ Some false → AreContained lits (kept literals taken) → Contains lits x
kept_at lits literals taken k x at is h = let w = kept_has literals taken k x at is in subst (Contains lits) (contained_is (kept literals taken) x w) (h w.0 x w.1)
  where
    kept_has : (literals : List Literal) (taken : List Bool) (k : ℕ) (x : Literal) → slice_get literals k ≡ Some x → slice_get taken k ≡ Some false → Contains (kept literals taken) x
    kept_has [] taken k x at is = absurd (let w : None ≡ Some x = at in cc)
    kept_has (y ∷ literals) [] k x at is = absurd (let w : None ≡ Some false = is in cc)
    kept_has (y ∷ literals) (true ∷ taken) zero x at is = absurd (let w : Some true ≡ Some false = is in cc)
    kept_has (y ∷ literals) (false ∷ taken) zero x at is = (zero, omega arith, same_some (Some y) y x refl at)
    kept_has (y ∷ literals) (true ∷ taken) (suc k) x at is = kept_has literals taken k x at is
    kept_has (y ∷ literals) (false ∷ taken) (suc k) x at is = let w = kept_has literals taken k x at is in (suc w.0, omega (arith, w.1), w.2)

    contained_is : (xs : List Literal) (x : Literal) (w : Contains xs x) → get_or xs w.0 x ≡ x
    contained_is [] x w = refl
    contained_is (y ∷ xs) x (zero, less, is) = is
    contained_is (y ∷ xs) x (suc k, less, is) = contained_is xs x (k, omega (arith, less), is)

picks_step : (lits literals : List Literal) (taken : List Bool) (picks : List ℕ) (k : ℕ) (x : Literal) (b : Bool) (pick : ℕ) → slice_get literals k ≡ Some x → slice_get taken k ≡ Some b
    → (b ≡ true → pick ≡ length lits) → (b ≡ false → slice_get lits pick ≡ Some x) → AreInstancePicks lits (take k literals) (take k taken) picks → AreInstancePicks lits (take (suc k) literals) (take (suc k) taken) (picks ++ pick ∷ [])
picks_step lits [] taken picks k x b pick at is one two h = absurd (let w : None ≡ Some x = at in cc)
picks_step lits (y ∷ literals) [] picks k x b pick at is one two h = absurd (let w : None ≡ Some b = is in cc)
picks_step lits (y ∷ literals) (true ∷ taken) [] zero x b pick at is one two h = (one (sym (same_some (Some true) true b refl is)), tt)
picks_step lits (y ∷ literals) (false ∷ taken) [] zero x b pick at is one two h =
    (two (sym (same_some (Some false) false b refl is)) ∙ ap Some (sym (same_some (Some y) y x refl at)), tt)
picks_step lits (y ∷ literals) (c ∷ taken) (p ∷ picks) zero x b pick at is one two h = absurd h
picks_step lits (y ∷ literals) (true ∷ taken) [] (suc k) x b pick at is one two h = absurd h
picks_step lits (y ∷ literals) (false ∷ taken) [] (suc k) x b pick at is one two h = absurd h
picks_step lits (y ∷ literals) (true ∷ taken) (p ∷ picks) (suc k) x b pick at is one two h = (h.0, picks_step lits literals taken picks k x b pick at is one two h.1)
picks_step lits (y ∷ literals) (false ∷ taken) (p ∷ picks) (suc k) x b pick at is one two h = (h.0, picks_step lits literals taken picks k x b pick at is one two h.1)

pub picks_more : (lits literals : List Literal) (taken : List Bool) (picks : List ℕ) (k : ℕ) (x : Literal) (b : Bool) (pick : ℕ) → slice_get literals k ≡ Some x → slice_get taken k ≡ Some b
    → AreContained lits (kept literals taken) → (b ≡ true → pick ≡ length lits) → (b ≡ false → Contains lits x → slice_get lits pick ≡ Some x)
    → AreInstancePicks lits (take k literals) (take k taken) picks → AreInstancePicks lits (take (k + 1) literals) (take (k + 1) taken) (picks ++ pick ∷ [])
picks_more lits literals taken picks k x b pick at is c one two h =
    let e : suc k ≡ k + 1 = omega arith in
    subst (λ z. AreInstancePicks lits (take z literals) (take z taken) (picks ++ pick ∷ [])) e
    (picks_step lits literals taken picks k x b pick at is one (λ f. two f (kept_at lits literals taken k x at (is ∙ ap Some f) c)) h)

pub picks_all : (lits literals : List Literal) (taken : List Bool) (picks : List ℕ) (k : ℕ) → length literals ≤ k → length taken ≡ length literals → AreInstancePicks lits (take k literals) (take k taken) picks → AreInstancePicks lits literals taken picks
picks_all lits literals taken picks k less long h =
    subst (λ z. AreInstancePicks lits z taken picks) (whole literals k less) (subst (λ z. AreInstancePicks lits (take k literals) z picks) (whole taken k (omega arith)) h)
  where
    whole : {A : Type 0} (xs : List A) (k : ℕ) → length xs ≤ k → take k xs ≡ xs
    whole [] zero less = refl
    whole [] (suc k) less = refl
    whole (x ∷ xs) zero less = absurd (omega arith)
    whole (x ∷ xs) (suc k) less = ap (λ z. x ∷ z) (whole xs k (omega arith))
