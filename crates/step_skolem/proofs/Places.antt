-- Numbers of quantifiers: the two sorted forms have the same numbers in two orders, and each order leads to the other.
use Rattle.std.proofs.Common.{◌≡◌, ◌<◌, ◌≤◌, ℕ, zero, suc, ◌+◌, nat_eq, Bool, true, false, not, List, [], ◌∷◌, ◌++◌, map, length, get_or, refl, sym, ap, ap₂, ◌∙◌, subst, arith, append_assoc, append-nil, length-append, eq-eqb, inl, inr}
use Rattle.std.specs.Prelude.{if◌then◌else◌}
use Rattle.std.proofs.lemmas.Bool.{and_from, and_parts, cases_order, eqb-true, or_cases}
use Rattle.std.proofs.lemmas.Bool.{or_left, or_right}
use Rattle.normal_form.specs.ClauseLists.{has_number}
use Rattle.normal_form.specs.Renaming.{place_of}
use Rattle.normal_form.specs.Forms.{Form, alls, exs}
use Rattle.normal_form.specs.Forms as form
use Rattle.step_skolem.specs.Carrying.{across}
use Rattle.step_skolem.specs.Images.{are_distinct}
use Rattle.normal_form.specs.Sorting.{Numbered, yes, no, lit, and, or, all, ex, bare, numbered_from, universals, existentials}
use Rattle.step_skolem.proofs.Puts.{HasNumbers, relabelled, bare_relabelled}
use Rattle.step_skolem.proofs.Numbers.{apart, has_map, not_both, not_by}
use Rattle.normal_form.proofs.Shuffles.{Shuffled, stay, chain, swap_and, turn_and, in_and, swap_or, turn_or, in_or, in_all, in_ex}

-- ---- a tree is told by its form and its numbers

map_append : (p : ℕ → ℕ) (l m : List ℕ) → map p (l ++ m) ≡ map p l ++ map p m
map_append p [] m = refl
map_append p (x ∷ l) m = ap (λ k. p x ∷ k) (map_append p l m)

universals_relabelled : (p q : ℕ → ℕ) (a : Numbered) → universals (relabelled p q a) ≡ map p (universals a)
universals_relabelled p q yes = refl
universals_relabelled p q no = refl
universals_relabelled p q (lit l) = refl
universals_relabelled p q (and a b) = ap₂ (λ l m. l ++ m) (universals_relabelled p q a) (universals_relabelled p q b) ∙ sym (map_append p (universals a) (universals b))
universals_relabelled p q (or a b) = ap₂ (λ l m. l ++ m) (universals_relabelled p q a) (universals_relabelled p q b) ∙ sym (map_append p (universals a) (universals b))
universals_relabelled p q (all u a) = ap (λ l. p u ∷ l) (universals_relabelled p q a)
universals_relabelled p q (ex e a) = universals_relabelled p q a

existentials_relabelled : (p q : ℕ → ℕ) (a : Numbered) → existentials (relabelled p q a) ≡ map q (existentials a)
existentials_relabelled p q yes = refl
existentials_relabelled p q no = refl
existentials_relabelled p q (lit l) = refl
existentials_relabelled p q (and a b) = ap₂ (λ l m. l ++ m) (existentials_relabelled p q a) (existentials_relabelled p q b) ∙ sym (map_append q (existentials a) (existentials b))
existentials_relabelled p q (or a b) = ap₂ (λ l m. l ++ m) (existentials_relabelled p q a) (existentials_relabelled p q b) ∙ sym (map_append q (existentials a) (existentials b))
existentials_relabelled p q (all u a) = existentials_relabelled p q a
existentials_relabelled p q (ex e a) = ap (λ l. q e ∷ l) (existentials_relabelled p q a)

abbrev first : List ℕ → ℕ
first [] = 0
first (n ∷ l) = n

abbrev rest : List ℕ → List ℕ
rest [] = []
rest (n ∷ l) = l

-- the tree with the first of these numbers, and the numbers that are left
abbrev fill : Form → List ℕ → List ℕ → Numbered × List ℕ × List ℕ
fill form.yes k l = (yes, k, l)
fill form.no k l = (no, k, l)
fill (form.lit x) k l = (lit x, k, l)
fill (form.and a b) k l = let x = fill a k l in let y = fill b x.1 x.2 in (and x.0 y.0, y.1, y.2)
fill (form.or a b) k l = let x = fill a k l in let y = fill b x.1 x.2 in (or x.0 y.0, y.1, y.2)
fill (form.all a) k l = let x = fill a (rest k) l in (all (first k) x.0, x.1, x.2)
fill (form.ex a) k l = let x = fill a k (rest l) in (ex (first l) x.0, x.1, x.2)

abbrev joined_by : (Numbered → Numbered → Numbered) → Form → Numbered × List ℕ × List ℕ → Numbered × List ℕ × List ℕ
joined_by join b x = let y = fill b x.1 x.2 in (join x.0 y.0, y.1, y.2)

filled : (a : Numbered) (k l : List ℕ) → fill (bare a) (universals a ++ k) (existentials a ++ l) ≡ (a, k, l)
filled yes k l = refl
filled no k l = refl
filled (lit x) k l = refl
filled (and a b) k l =
    ap₂ (λ x y. fill (form.and (bare a) (bare b)) x y) (append_assoc (universals a) (universals b) k) (append_assoc (existentials a) (existentials b) l)
    ∙ ap (joined_by and (bare b)) (filled a (universals b ++ k) (existentials b ++ l))
    ∙ ap (λ (y : Numbered × List ℕ × List ℕ). (and a y.0, y.1, y.2)) (filled b k l)
filled (or a b) k l =
    ap₂ (λ x y. fill (form.or (bare a) (bare b)) x y) (append_assoc (universals a) (universals b) k) (append_assoc (existentials a) (existentials b) l)
    ∙ ap (joined_by or (bare b)) (filled a (universals b ++ k) (existentials b ++ l))
    ∙ ap (λ (y : Numbered × List ℕ × List ℕ). (or a y.0, y.1, y.2)) (filled b k l)
filled (all u a) k l = ap (λ (y : Numbered × List ℕ × List ℕ). (all u y.0, y.1, y.2)) (filled a k l)
filled (ex e a) k l = ap (λ (y : Numbered × List ℕ × List ℕ). (ex e y.0, y.1, y.2)) (filled a k l)

abbrev tree : Form → List ℕ → List ℕ → Numbered
tree n k l = (fill n k l).0

tree_of : (a : Numbered) → tree (bare a) (universals a) (existentials a) ≡ a
tree_of a = ap₂ (tree (bare a)) (sym (append-nil (universals a))) (sym (append-nil (existentials a))) ∙ ap (λ (y : Numbered × List ℕ × List ℕ). y.0) (filled a [] [])

pub relabels : (p q : ℕ → ℕ) (a b : Numbered) → bare a ≡ bare b → map p (universals a) ≡ universals b → map q (existentials a) ≡ existentials b → relabelled p q a ≡ b
relabels p q a b h k l =
    sym (tree_of (relabelled p q a))
    ∙ ap (λ n. tree n (universals (relabelled p q a)) (existentials (relabelled p q a))) (bare_relabelled p q a ∙ h)
    ∙ ap₂ (tree (bare b)) (universals_relabelled p q a ∙ k) (existentials_relabelled p q a ∙ l)
    ∙ tree_of b

-- ---- how often a number stands in a list

abbrev one_if : Bool → ℕ
one_if true = 1
one_if false = 0

abbrev pub times : List ℕ → ℕ → ℕ
times [] n = 0
times (m ∷ l) n = one_if (nat_eq m n) + times l n

times_append : (l m : List ℕ) (n : ℕ) → times (l ++ m) n ≡ times l n + times m n
times_append [] m n = omega arith
times_append (x ∷ l) m n = let h = times_append l m n in omega arith

times_universals : {a b : Numbered} → Shuffled a b → (n : ℕ) → times (universals a) n ≡ times (universals b) n
times_universals (stay a) n = refl
times_universals (chain a b c p q) n = times_universals p n ∙ times_universals q n
times_universals (swap_and a b) n = omega (arith, times_append (universals a) (universals b) n, times_append (universals b) (universals a) n)
times_universals (turn_and a b c) n = ap (λ l. times l n) (append_assoc (universals a) (universals b) (universals c))
times_universals (in_and a b c d p q) n = omega (arith, times_append (universals a) (universals b) n, times_append (universals c) (universals d) n, times_universals p n, times_universals q n)
times_universals (swap_or a b) n = omega (arith, times_append (universals a) (universals b) n, times_append (universals b) (universals a) n)
times_universals (turn_or a b c) n = ap (λ l. times l n) (append_assoc (universals a) (universals b) (universals c))
times_universals (in_or a b c d p q) n = omega (arith, times_append (universals a) (universals b) n, times_append (universals c) (universals d) n, times_universals p n, times_universals q n)
times_universals (in_all u a b p) n = ap (λ x. one_if (nat_eq u n) + x) (times_universals p n)
times_universals (in_ex e a b p) n = times_universals p n

times_existentials : {a b : Numbered} → Shuffled a b → (n : ℕ) → times (existentials a) n ≡ times (existentials b) n
times_existentials (stay a) n = refl
times_existentials (chain a b c p q) n = times_existentials p n ∙ times_existentials q n
times_existentials (swap_and a b) n = omega (arith, times_append (existentials a) (existentials b) n, times_append (existentials b) (existentials a) n)
times_existentials (turn_and a b c) n = ap (λ l. times l n) (append_assoc (existentials a) (existentials b) (existentials c))
times_existentials (in_and a b c d p q) n = omega (arith, times_append (existentials a) (existentials b) n, times_append (existentials c) (existentials d) n, times_existentials p n, times_existentials q n)
times_existentials (swap_or a b) n = omega (arith, times_append (existentials a) (existentials b) n, times_append (existentials b) (existentials a) n)
times_existentials (turn_or a b c) n = ap (λ l. times l n) (append_assoc (existentials a) (existentials b) (existentials c))
times_existentials (in_or a b c d p q) n = omega (arith, times_append (existentials a) (existentials b) n, times_append (existentials c) (existentials d) n, times_existentials p n, times_existentials q n)
times_existentials (in_all u a b p) n = times_existentials p n
times_existentials (in_ex e a b p) n = ap (λ x. one_if (nat_eq e n) + x) (times_existentials p n)

-- ---- the numbers from u on

abbrev pub range : ℕ → ℕ → List ℕ
range u zero = []
range u (suc n) = u ∷ range (suc u) n

range_append : (u n a b d : ℕ) → n ≡ a + b → d ≡ a + u → range u n ≡ range u a ++ range d b
range_append u n zero b d h k = let x : n ≡ b = omega arith in let y : u ≡ d = omega arith in ap₂ range y x
range_append u zero (suc a) b d h k = absurd (omega arith)
range_append u (suc n) (suc a) b d h k = ap (λ l. u ∷ l) (range_append (suc u) n a b d (omega arith) (omega arith))

universals_numbered : (u e : ℕ) (n : Form) → universals (numbered_from u e n) ≡ range u (alls n)
universals_numbered u e form.yes = refl
universals_numbered u e form.no = refl
universals_numbered u e (form.lit l) = refl
universals_numbered u e (form.and a b) =
    ap₂ (λ l m. l ++ m) (universals_numbered u e a) (universals_numbered (alls a + u) (exs a + e) b) ∙ sym (range_append u (alls a + alls b) (alls a) (alls b) (alls a + u) refl refl)
universals_numbered u e (form.or a b) =
    ap₂ (λ l m. l ++ m) (universals_numbered u e a) (universals_numbered (alls a + u) (exs a + e) b) ∙ sym (range_append u (alls a + alls b) (alls a) (alls b) (alls a + u) refl refl)
universals_numbered u e (form.all a) = ap (λ l. u ∷ l) (universals_numbered (suc u) e a)
universals_numbered u e (form.ex a) = universals_numbered u (suc e) a

existentials_numbered : (u e : ℕ) (n : Form) → existentials (numbered_from u e n) ≡ range e (exs n)
existentials_numbered u e form.yes = refl
existentials_numbered u e form.no = refl
existentials_numbered u e (form.lit l) = refl
existentials_numbered u e (form.and a b) =
    ap₂ (λ l m. l ++ m) (existentials_numbered u e a) (existentials_numbered (alls a + u) (exs a + e) b) ∙ sym (range_append e (exs a + exs b) (exs a) (exs b) (exs a + e) refl refl)
existentials_numbered u e (form.or a b) =
    ap₂ (λ l m. l ++ m) (existentials_numbered u e a) (existentials_numbered (alls a + u) (exs a + e) b) ∙ sym (range_append e (exs a + exs b) (exs a) (exs b) (exs a + e) refl refl)
existentials_numbered u e (form.all a) = existentials_numbered (suc u) e a
existentials_numbered u e (form.ex a) = ap (λ l. e ∷ l) (existentials_numbered u (suc e) a)

not_in_range : (u k n : ℕ) → (u ≤ n → k + u ≤ n) → times (range u k) n ≡ 0
not_in_range u zero n h = refl
not_in_range u (suc k) n h =
    let d : nat_eq u n ≡ false = apart u n (λ e. let v = h (omega arith) in omega arith) in
    ap₂ (λ t x. one_if t + x) d (not_in_range (suc u) k n (λ l. let v = h (omega arith) in omega arith))

in_range : (u k n : ℕ) → u ≤ n → n < k + u → times (range u k) n ≡ 1
in_range u zero n h w = absurd (omega arith)
in_range u (suc k) n h w = elim (cases_order u n) [
  | inl e ↦ ap₂ (λ t x. one_if t + x) (eq-eqb u n e) (not_in_range (suc u) k n (λ v. absurd (omega (arith, v, e))))
  | inr o ↦ elim o [
    | inl l ↦ ap₂ (λ t x. one_if t + x) (apart u n (λ e. omega (arith, l, e))) (in_range (suc u) k n (omega (arith, l)) (omega (arith, w)))
    | inr l ↦ absurd (omega (arith, l, h))
  ]
]

has_times : (l : List ℕ) (n : ℕ) → has_number l n ≡ true → 1 ≤ times l n
has_times [] n h = cc
has_times (m ∷ l) n h = elim (or_cases (nat_eq m n) (has_number l n) h) [
  | inl e ↦ let x : one_if (nat_eq m n) ≡ 1 = ap one_if e in omega (arith, x)
  | inr w ↦ let x = has_times l n w in omega (arith, x)
]

times_has : (l : List ℕ) (n : ℕ) → 1 ≤ times l n → has_number l n ≡ true
times_has [] n h = absurd (omega arith)
times_has (m ∷ l) n h = elim (cases_order m n) [
  | inl e ↦ or_left (nat_eq m n) (has_number l n) (eq-eqb m n e)
  | inr o ↦ or_right (nat_eq m n) (has_number l n) (times_has l n (let x : one_if (nat_eq m n) ≡ 0 = ap one_if (apart m n (λ e. elim o [ inl v ↦ omega (arith, e, v) | inr v ↦ omega (arith, e, v) ])) in omega (arith, x)))
]

once_times : (l : List ℕ) → ((n : ℕ) → times l n ≤ 1) → are_distinct l ≡ true
once_times [] h = refl
once_times (m ∷ l) h =
    and_from (not (has_number l m)) (are_distinct l)
    (not_by (has_number l m) (λ w. let x = has_times l m w in let y = h m in let z : one_if (nat_eq m m) ≡ 1 = ap one_if (eq-eqb m m refl) in omega (arith, x, y, z)))
    (once_times l (λ n. let y = h n in omega (arith, y)))

-- the list has the numbers below k, each once
pub record Orders (k : ℕ) (l : List ℕ) : Type 0 where
  pub once : are_distinct l ≡ true
  pub below : (n : ℕ) → has_number l n ≡ true → n < k
  pub there : (n : ℕ) → n < k → has_number l n ≡ true

range_once : (k n : ℕ) → times (range 0 k) n ≤ 1
range_once k n = elim (cases_order n k) [
  | inl e ↦ let x = not_in_range 0 k n (λ v. omega (arith, e)) in omega (arith, x)
  | inr o ↦ elim o [
    | inl l ↦ let x = in_range 0 k n (omega arith) (omega (arith, l)) in omega (arith, x)
    | inr l ↦ let x = not_in_range 0 k n (λ v. omega (arith, l)) in omega (arith, x)
  ]
]

below_range : (k n : ℕ) → 1 ≤ times (range 0 k) n → n < k
below_range k n h = elim (cases_order n k) [
  | inl e ↦ let x = not_in_range 0 k n (λ v. omega (arith, e)) in absurd (omega (arith, x, h))
  | inr o ↦ elim o [
    | inl l ↦ l
    | inr l ↦ let x = not_in_range 0 k n (λ v. omega (arith, l)) in absurd (omega (arith, x, h))
  ]
]

orders : (k : ℕ) (l : List ℕ) → ((n : ℕ) → times l n ≡ times (range 0 k) n) → Orders k l
orders k l h = record {
  once = once_times l (λ n. let x = h n in let y = range_once k n in omega (arith, x, y));
  below = λ n w. let x = has_times l n w in let y = h n in below_range k n (omega (arith, x, y));
  there = λ n w. let x = in_range 0 k n (omega arith) (omega (arith, w)) in let y = h n in times_has l n (omega (arith, x, y));
}

pub orders_universals : (n : Form) (a : Numbered) → Shuffled a (numbered_from 0 0 n) → Orders (alls n) (universals a)
orders_universals n a h = orders (alls n) (universals a) (λ k. times_universals h k ∙ ap (λ l. times l k) (universals_numbered 0 0 n))

pub orders_existentials : (n : Form) (a : Numbered) → Shuffled a (numbered_from 0 0 n) → Orders (exs n) (existentials a)
orders_existentials n a h = orders (exs n) (existentials a) (λ k. times_existentials h k ∙ ap (λ l. times l k) (existentials_numbered 0 0 n))

-- ---- from one order to the other

map_same : (f g : ℕ → ℕ) (l : List ℕ) → ((n : ℕ) → has_number l n ≡ true → f n ≡ g n) → map f l ≡ map g l
map_same f g [] h = refl
map_same f g (m ∷ l) h =
    ap₂ (λ x k. x ∷ k) (h m (or_left (nat_eq m m) (has_number l m) (eq-eqb m m refl))) (map_same f g l (λ n w. h n (or_right (nat_eq m n) (has_number l n) w)))

pub across_all : (l k : List ℕ) → are_distinct l ≡ true → length l ≡ length k → map (across l k) l ≡ k
across_all [] [] h e = refl
across_all [] (v ∷ k) h e = absurd (omega arith)
across_all (u ∷ l) [] h e = absurd (omega arith)
across_all (u ∷ l) (v ∷ k) h e =
    let parts = and_parts (not (has_number l u)) (are_distinct l) h in
    ap₂ (λ x m. x ∷ m)
    (ap (λ t. get_or (v ∷ k) (if t then 0 else 1 + place_of l u) 0) (eq-eqb u u refl))
    (map_same (across (u ∷ l) (v ∷ k)) (across l k) l
    (λ n w. ap (λ t. get_or (v ∷ k) (if t then 0 else 1 + place_of l n) 0) (apart u n (λ q. not_both (has_number l u) parts.0 (subst (λ x. has_number l x ≡ true) (sym q) w)))
    ∙ ap (λ x. get_or (v ∷ k) x 0) (one_more (place_of l n)))
    ∙ across_all l k parts.1 (omega arith))
  where
    one_more : (x : ℕ) → 1 + x ≡ suc x
    one_more x = omega arith

fixed : (p r : ℕ → ℕ) (l : List ℕ) → map r (map p l) ≡ l → (n : ℕ) → has_number l n ≡ true → r (p n) ≡ n
fixed p r [] h n w = cc
fixed p r (m ∷ l) h n w =
    let e : r (p m) ≡ m = cc in
    let t : map r (map p l) ≡ l = cc in
    elim (or_cases (nat_eq m n) (has_number l n) w) [
      | inl d ↦ subst (λ x. r (p x) ≡ x) (eqb-true m n d) e
      | inr v ↦ fixed p r l t n v
    ]

-- two orders of the same length
pub record Matched (l k : List ℕ) : Type 0 where
  pub to : map (across l k) l ≡ k
  pub back : (n : ℕ) → has_number l n ≡ true → across k l (across l k n) ≡ n
  pub lands : (n : ℕ) → has_number l n ≡ true → has_number k (across l k n) ≡ true

pub matched : (l k : List ℕ) → are_distinct l ≡ true → are_distinct k ≡ true → length l ≡ length k → Matched l k
matched l k h w e =
    let to = across_all l k h e in
    record {
      to = to;
      back = fixed (across l k) (across k l) l (ap (map (across k l)) to ∙ across_all k l w (sym e));
      lands = λ n v. subst (λ x. has_number x (across l k n) ≡ true) to (has_map (across l k) l n v);
    }

pub length_universals : (a : Numbered) → length (universals a) ≡ alls (bare a)
length_universals yes = refl
length_universals no = refl
length_universals (lit l) = refl
length_universals (and a b) = length-append (universals a) (universals b) ∙ ap₂ (λ x y. x + y) (length_universals a) (length_universals b)
length_universals (or a b) = length-append (universals a) (universals b) ∙ ap₂ (λ x y. x + y) (length_universals a) (length_universals b)
length_universals (all u a) = let h = length_universals a in omega (arith, h)
length_universals (ex e a) = length_universals a

pub length_existentials : (a : Numbered) → length (existentials a) ≡ exs (bare a)
length_existentials yes = refl
length_existentials no = refl
length_existentials (lit l) = refl
length_existentials (and a b) = length-append (existentials a) (existentials b) ∙ ap₂ (λ x y. x + y) (length_existentials a) (length_existentials b)
length_existentials (or a b) = length-append (existentials a) (existentials b) ∙ ap₂ (λ x y. x + y) (length_existentials a) (length_existentials b)
length_existentials (all u a) = length_existentials a
length_existentials (ex e a) = let h = length_existentials a in omega (arith, h)

has_first : (l m : List ℕ) (n : ℕ) → has_number l n ≡ true → has_number (l ++ m) n ≡ true
has_first l m n h = let x = has_times l n h in times_has (l ++ m) n (omega (arith, x, times_append l m n))

has_second : (l m : List ℕ) (n : ℕ) → has_number m n ≡ true → has_number (l ++ m) n ≡ true
has_second l m n h = let x = has_times m n h in times_has (l ++ m) n (omega (arith, x, times_append l m n))

pub every_of : (P Q : ℕ → Type 0) (a : Numbered) → ((n : ℕ) → has_number (universals a) n ≡ true → P n) → ((n : ℕ) → has_number (existentials a) n ≡ true → Q n) → HasNumbers P Q a
every_of P Q yes h w = tt
every_of P Q no h w = tt
every_of P Q (lit l) h w = tt
every_of P Q (and a b) h w = (
  every_of P Q a (λ n v. h n (has_first (universals a) (universals b) n v)) (λ n v. w n (has_first (existentials a) (existentials b) n v)),
  every_of P Q b (λ n v. h n (has_second (universals a) (universals b) n v)) (λ n v. w n (has_second (existentials a) (existentials b) n v)),
)
every_of P Q (or a b) h w = (
  every_of P Q a (λ n v. h n (has_first (universals a) (universals b) n v)) (λ n v. w n (has_first (existentials a) (existentials b) n v)),
  every_of P Q b (λ n v. h n (has_second (universals a) (universals b) n v)) (λ n v. w n (has_second (existentials a) (existentials b) n v)),
)
every_of P Q (all u a) h w =
    (h u (or_left (nat_eq u u) (has_number (universals a) u) (eq-eqb u u refl)), every_of P Q a (λ n v. h n (or_right (nat_eq u n) (has_number (universals a) n) v)) w)
every_of P Q (ex e a) h w =
    (w e (or_left (nat_eq e e) (has_number (existentials a) e) (eq-eqb e e refl)), every_of P Q a h (λ n v. w n (or_right (nat_eq e n) (has_number (existentials a) n) v)))
