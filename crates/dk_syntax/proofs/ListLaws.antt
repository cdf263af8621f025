-- Laws of lists: a fact of each item, tests of the items, entries.
use Rattle.std.proofs.Common.{◌≡◌, ◌<◌, ◌+◌, ℕ, zero, suc, Bool, true, false, ◌⊎◌, inl, inr, List, [], ◌∷◌, ◌++◌, map, get_or, length, arith, ap, ap₂, refl, sym, subst, ◌∙◌}
use Rattle.std.proofs.lemmas.Bool.{and_parts, or_left, or_right}
use Rattle.std.proofs.lemmas.Bool.Decides.{nat_tests}
use Rattle.std.proofs.lemmas.List.{get_or_default}
use Rattle.dk_syntax.specs.Lists.{Each, Entry, Every, all_true, any_true, each_cons, each_nil, entry_here, entry_later, every_cons, every_nil}

-- ---- what an induction knows of the items

-- the fact holds of each item, as one pair for each
abbrev pub ForEach : {A : Type 0} → (A → Type 0) → List A → Type 0
ForEach P [] = Unit {0}
ForEach P (x ∷ xs) = P x × ForEach P xs

pub for_each : {A : Type 0} (P : A → Type 0) → ((x : A) → P x) → (xs : List A) → ForEach P xs
for_each P f [] = tt
for_each P f (x ∷ xs) = (f x, for_each P f xs)

pub map-for_each : {A B : Type 0} (f g : A → B) (xs : List A) → ForEach (λ x. f x ≡ g x) xs → map f xs ≡ map g xs
map-for_each f g [] same = refl
map-for_each f g (x ∷ xs) same = ap₂ (λ y ys. y ∷ ys) same.0 (map-for_each f g xs same.1)

-- ---- tests of the items

-- a test of all items says the same of each item, and the other way round
pub each_true : {A : Type 0} (test : A → Bool) (xs : List A) → all_true (map test xs) ≡ true → ForEach (λ x. test x ≡ true) xs
each_true test [] h = tt
each_true test (x ∷ xs) h = let both = and_parts (test x) (all_true (map test xs)) h in (both.0, each_true test xs both.1)

pub all_true-each : {A : Type 0} (test : A → Bool) (xs : List A) → ForEach (λ x. test x ≡ true) xs → all_true (map test xs) ≡ true
all_true-each test [] known = refl
all_true-each test (x ∷ xs) known = let rest = all_true-each test xs known.1 in let here = known.0 in cc

-- a number below the next is below or the number itself
pub or_equal : (k i : ℕ) → k < i + 1 → (k < i) ⊎ (k ≡ i)
or_equal k i l = grind (arith, nat_tests)

-- one item that passes
pub one_true : {A : Type 0} (test : A → Bool) (xs : List A) (i : ℕ) (x : A) → i < length xs → x ≡ get_or xs i x → test x ≡ true → any_true (map test xs) ≡ true
one_true test [] i x l e h = absurd (omega arith)
one_true test (y ∷ ys) zero x l e h = or_left (test y) (any_true (map test ys)) (ap test (sym e) ∙ h)
one_true test (y ∷ ys) (suc i) x l e h = or_right (test y) (any_true (map test ys)) (one_true test ys i x (omega arith) e h)

-- no item passes
pub none_true : {A : Type 0} (test : A → Bool) (xs : List A) → ((i : ℕ) (d : A) → i < length xs → test (get_or xs i d) ≡ false) → any_true (map test xs) ≡ false
none_true test [] h = refl
none_true test (x ∷ xs) h =
    let a = h zero x (omega arith) in
    let b = none_true test xs (λ i d l. h (suc i) d (omega arith)) in cc

-- the test is false of the items before a place
abbrev pub NoneTo : {A : Type 0} → (A → Bool) → List A → ℕ → Type 0
NoneTo {A} test xs n = (i : ℕ) (d : A) → i < n → test (get_or xs i d) ≡ false

pub none_more : {A : Type 0} (test : A → Bool) (xs : List A) (n : ℕ) (x : A) → n < length xs → x ≡ get_or xs n x → test x ≡ false → NoneTo test xs n → NoneTo test xs (n + 1)
none_more test xs n x l e h none i d lt = elim (or_equal i n lt) [
  | inl p ↦ none i d p
  | inr p ↦ ap (λ j. test (get_or xs j d)) p ∙ ap test (get_or_default xs n d x l ∙ sym e) ∙ h
]

-- ---- lists with entries, place by place

first_same : {A : Type 0} {l : List A} {a b : A} → Entry (a ∷ l) zero b → a ≡ b
first_same (entry_here _ _) = refl

later_same : {A : Type 0} {l : List A} {a b : A} {k : ℕ} → Entry (a ∷ l) (suc k) b → Entry l k b
later_same (entry_later _ h) = h

pub entry_same : {A : Type 0} {l : List A} {k : ℕ} {a b : A} → Entry l k a → Entry l k b → a ≡ b
entry_same (entry_here a l) h = first_same h
entry_same (entry_later b i) h = entry_same i (later_same h)

pub entry_end : {A : Type 0} {a : A} (d : List A) → Entry (d ++ a ∷ []) (length d) a
entry_end [] = entry_here _ []
entry_end (b ∷ d) = entry_later b (entry_end d)

pub every_at : {A : Type 0} {p : A → Type 0} {l : List A} {k : ℕ} {a : A} → Every p l → Entry l k a → p a
every_at every_nil h = elim h [ ]
every_at (every_cons w ws) (entry_here a l) = w
every_at (every_cons w ws) (entry_later b i) = every_at ws i

pub every_middle : {A : Type 0} {p : A → Type 0} {a : A} (front back : List A) → Every p (front ++ a ∷ back) → p a
every_middle [] back (every_cons w ws) = w
every_middle (b ∷ front) back (every_cons w ws) = every_middle front back ws

pub each_snoc : {A B : Type 0} {r : A → B → Type 0} {l : List A} {m : List B} {a : A} {b : B} → Each r l m → r a b → Each r (l ++ a ∷ []) (m ++ b ∷ [])
each_snoc each_nil i = each_cons i each_nil
each_snoc (each_cons j h) i = each_cons j (each_snoc h i)

pub each_map : {A B : Type 0} {r q : A → B → Type 0} {l : List A} {m : List B} (f : B → B) → ((a : A) (b : B) → r a b → q a (f b)) → Each r l m → Each q l (map f m)
each_map f w each_nil = each_nil
each_map f w (each_cons {a = a} {b = b} j h) = each_cons (w a b j) (each_map f w h)

-- what is chosen somewhere has what each element has
pub every_chosen : {A : Type 0} {p : A → Type 0} {d c : List A} {ks : List ℕ} {m k : ℕ} {a : A} → Each (λ l k. Entry d k l) c ks → Entry ks m k → Entry d k a → Every p c → p a
every_chosen each_nil m n o = elim m [ ]
every_chosen {p = p} (each_cons i j) (entry_here _ _) n (every_cons w ws) = subst p (entry_same i n) w
every_chosen (each_cons i j) (entry_later _ m) n (every_cons w ws) = every_chosen j m n ws
