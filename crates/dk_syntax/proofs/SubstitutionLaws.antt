-- Laws of substitution in terms, and of the variables of a term.
use Rattle.std.proofs.Common.{◌≡◌, ◌≤◌, ◌<◌, ◌+◌, ℕ, zero, suc, Bool, true, false, ◌||◌, List, [], ◌∷◌, map, get_or, length, sum, arith, rules, refl, sym, ap, ◌∙◌, ◌⊎◌, inl, inr}
use Rattle.std.specs.Prelude.{if◌then◌else◌, nat_eq}
use Rattle.std.proofs.lemmas.Bool.{cases_Bool, eq-eqb, eqb-true, or_cases, or_left, or_right}
use Rattle.std.proofs.lemmas.List.{get_or_default}
use Rattle.std.proofs.lemmas.List.Sums.{sum_by-cons}
use Rattle.dk_syntax.proofs.ListLaws.{ForEach, or_equal}
use Rattle.dk_syntax.proofs.TermLaws.{term_induction}
use Rattle.dk_syntax.specs.Terms.{any_true, has_variable, substituted, term_size}
use Rattle.dk_syntax.specs.declared.symbol.SymKey.{SymKey}
use Rattle.dk_syntax.specs.declared.term.Term.{Term, the_lemmas as of_terms}
use Rattle.dk_syntax.specs.declared.term.Term.TheVariants.{Any, App, Var}

-- the equations of the two folds
pub substituted-Var : (s : ℕ → Term) (k : ℕ) → substituted s (Var k) ≡ s k
substituted-Var s k = search (rules, of_terms)

pub substituted-App : (s : ℕ → Term) (f : SymKey) (args : List Term) → substituted s (App f args) ≡ App f (map (substituted s) args)
substituted-App s f args = search (rules, of_terms)

pub substituted-Any : (s : ℕ → Term) → substituted s Any ≡ Any
substituted-Any s = search (rules, of_terms)

pub has_variable-Var : (k j : ℕ) → has_variable k (Var j) ≡ nat_eq j k
has_variable-Var k j = search (rules, of_terms)

pub has_variable-App : (k : ℕ) (f : SymKey) (args : List Term) → has_variable k (App f args) ≡ any_true (map (has_variable k) args)
has_variable-App k f args = search (rules, of_terms)

pub has_variable-Any : (k : ℕ) → has_variable k Any ≡ false
has_variable-Any k = search (rules, of_terms)

-- two substitutions that agree on a term's variables agree on the term
agree_all : (s t : ℕ → Term) (args : List Term) → ForEach (λ u. ((k : ℕ) → has_variable k u ≡ true → s k ≡ t k) → substituted s u ≡ substituted t u) args → ((k : ℕ) → any_true (map (has_variable k) args) ≡ true → s k ≡ t k) → map (substituted s) args ≡ map (substituted t) args
agree_all s t [] known h = refl
agree_all s t (x ∷ xs) known h =
    let a = known.0 (λ k e. h k (or_left (has_variable k x) (any_true (map (has_variable k) xs)) e)) in
    let b = agree_all s t xs known.1 (λ k e. h k (or_right (has_variable k x) (any_true (map (has_variable k) xs)) e)) in
    cc

pub agree : (s t : ℕ → Term) (u : Term) → ((k : ℕ) → has_variable k u ≡ true → s k ≡ t k) → substituted s u ≡ substituted t u
agree s t = term_induction (λ u. ((k : ℕ) → has_variable k u ≡ true → s k ≡ t k) → substituted s u ≡ substituted t u)
    (λ k h. substituted-Var s k ∙ h k (has_variable-Var k k ∙ eq-eqb k k refl) ∙ sym (substituted-Var t k))
    (λ f args known h. substituted-App s f args ∙ ap (App f) (agree_all s t args known (λ k e. h k (has_variable-App k f args ∙ e))) ∙ sym (substituted-App t f args))
    (λ h. substituted-Any s ∙ sym (substituted-Any t))

-- one after the other
after_all : (s t : ℕ → Term) (args : List Term) → ForEach (λ u. substituted s (substituted t u) ≡ substituted (λ k. substituted s (t k)) u) args → map (substituted s) (map (substituted t) args) ≡ map (substituted (λ k. substituted s (t k))) args
after_all s t [] known = refl
after_all s t (x ∷ xs) known = let a = known.0 in let b = after_all s t xs known.1 in cc

pub after : (s t : ℕ → Term) (u : Term) → substituted s (substituted t u) ≡ substituted (λ k. substituted s (t k)) u
after s t = term_induction (λ u. substituted s (substituted t u) ≡ substituted (λ k. substituted s (t k)) u)
    (λ k. ap (substituted s) (substituted-Var t k) ∙ sym (substituted-Var (λ j. substituted s (t j)) k))
    (λ f args known. ap (substituted s) (substituted-App t f args) ∙ substituted-App s f (map (substituted t) args) ∙ ap (App f) (after_all s t args known) ∙ sym (substituted-App (λ k. substituted s (t k)) f args))
    (ap (substituted s) (substituted-Any t) ∙ substituted-Any s ∙ sym (substituted-Any (λ k. substituted s (t k))))

same_all : (args : List Term) → ForEach (λ u. substituted Var u ≡ u) args → map (substituted Var) args ≡ args
same_all [] known = refl
same_all (x ∷ xs) known = let a = known.0 in let b = same_all xs known.1 in cc

pub same : (u : Term) → substituted Var u ≡ u
same = term_induction (λ u. substituted Var u ≡ u)
    (λ k. substituted-Var Var k)
    (λ f args known. substituted-App Var f args ∙ ap (App f) (same_all args known))
    (substituted-Any Var)

-- where a variable of the result comes from
abbrev pub Comes : (ℕ → Term) → ℕ → Term → Type 0
Comes s j u = has_variable j (substituted s u) ≡ true → (k : ℕ) × (has_variable k u ≡ true) × (has_variable j (s k) ≡ true)

comes_all : (s : ℕ → Term) (j : ℕ) (args : List Term) → ForEach (Comes s j) args → any_true (map (has_variable j) (map (substituted s) args)) ≡ true → (k : ℕ) × (any_true (map (has_variable k) args) ≡ true) × (has_variable j (s k) ≡ true)
comes_all s j [] known e = absurd (cc)
comes_all s j (x ∷ xs) known e = elim (or_cases (has_variable j (substituted s x)) (any_true (map (has_variable j) (map (substituted s) xs))) e) [
  | inl p ↦ let w = known.0 p in (w.0, or_left (has_variable w.0 x) (any_true (map (has_variable w.0) xs)) w.1, w.2)
  | inr q ↦ let w = comes_all s j xs known.1 q in (w.0, or_right (has_variable w.0 x) (any_true (map (has_variable w.0) xs)) w.1, w.2)
]

pub comes : (s : ℕ → Term) (j : ℕ) (u : Term) → Comes s j u
comes s j = term_induction (Comes s j)
    (λ k e. (k, has_variable-Var k k ∙ eq-eqb k k refl, sym (ap (has_variable j) (substituted-Var s k)) ∙ e))
    (λ f args known e. let w = comes_all s j args known (sym (ap (has_variable j) (substituted-App s f args) ∙ has_variable-App j f (map (substituted s) args)) ∙ e) in (w.0, has_variable-App w.0 f args ∙ w.1, w.2))
    (λ e. absurd (let a = has_variable-Any j in let b = substituted-Any s in let d = ap (has_variable j) b in cc))

pub term_size-Any : term_size Any ≡ 1
term_size-Any = search (rules, of_terms)

pub term_size-App : (f : SymKey) (args : List Term) → term_size (App f args) ≡ 1 + sum (map term_size args)
term_size-App f args = search (rules, of_terms)

abbrev pub AtLeast : (ℕ → Term) → ℕ → Term → Type 0
AtLeast r k t = has_variable k t ≡ true → term_size (r k) ≤ term_size (substituted r t)

weigh_all : (r : ℕ → Term) (k : ℕ) (args : List Term) → ForEach (AtLeast r k) args → any_true (map (has_variable k) args) ≡ true → term_size (r k) ≤ sum (map term_size (map (substituted r) args))
weigh_all r k [] known e = absurd (cc)
weigh_all r k (x ∷ xs) known e = elim (or_cases (has_variable k x) (any_true (map (has_variable k) xs)) e) [
  | inl p ↦ let h = known.0 p in let more = sums in omega arith
  | inr q ↦ let h = weigh_all r k xs known.1 q in let more = sums in omega arith
]
  where
    sums : sum (map term_size (map (substituted r) (x ∷ xs))) ≡ term_size (substituted r x) + sum (map term_size (map (substituted r) xs))
    sums = sum_by-cons (λ n. n) (term_size (substituted r x)) (map term_size (map (substituted r) xs))

pub weigh : (r : ℕ → Term) (k : ℕ) (t : Term) → AtLeast r k t
weigh r k = term_induction (AtLeast r k)
    (λ j e. let i = eqb-true j k (sym (has_variable-Var k j) ∙ e) in let h = ap term_size (ap r (sym i) ∙ sym (substituted-Var r j)) in omega arith)
    (λ f args known e. let h = weigh_all r k args known (sym (has_variable-App k f args) ∙ e) in let w = ap term_size (substituted-App r f args) ∙ term_size-App f (map (substituted r) args) in omega arith)
    (λ e. absurd (let a = has_variable-Any k in cc))

each_weighed : (r : ℕ → Term) (k : ℕ) (args : List Term) → ForEach (AtLeast r k) args
each_weighed r k [] = tt
each_weighed r k (x ∷ xs) = (weigh r k x, each_weighed r k xs)

-- a variable is not equal to a larger term in which it stands
abbrev pub Acyclic : (ℕ → Term) → ℕ → Term → Type 0
Acyclic r k t = has_variable k t ≡ true → (t ≡ Var k → ⊥) → r k ≡ substituted r t → ⊥

pub acyclic : (r : ℕ → Term) (k : ℕ) (t : Term) → Acyclic r k t
acyclic r k = term_induction (Acyclic r k)
    (λ j e n q. n (ap Var (eqb-true j k (sym (has_variable-Var k j) ∙ e))))
    (λ f args known e n q.
    let h = weigh_all r k args (each_weighed r k args) (sym (has_variable-App k f args) ∙ e) in
    let w = ap term_size (substituted-App r f args) ∙ term_size-App f (map (substituted r) args) in
    let v = ap term_size q in omega arith)
    (λ e n q. let a = has_variable-Any k in cc)

each_comes : (s : ℕ → Term) (j : ℕ) (args : List Term) → ForEach (Comes s j) args
each_comes s j [] = tt
each_comes s j (x ∷ xs) = (comes s j x, each_comes s j xs)

pub comes_in_list : (s : ℕ → Term) (j : ℕ) (args : List Term) → any_true (map (has_variable j) (map (substituted s) args)) ≡ true → (k : ℕ) × (any_true (map (has_variable k) args) ≡ true) × (has_variable j (s k) ≡ true)
comes_in_list s j args e = comes_all s j args (each_comes s j args) e

-- ---- terms that are variables

pub stands : (j : ℕ) (t : Term) → t ≡ Var j → has_variable j t ≡ true
stands j t e = ap (has_variable j) e ∙ has_variable-Var j j ∙ eq-eqb j j refl

pub is_variable : (j k : ℕ) (t : Term) → t ≡ Var j → has_variable k t ≡ true → j ≡ k
is_variable j k t e h = eqb-true j k (sym (has_variable-Var k j) ∙ ap (has_variable k) (sym e) ∙ h)

-- ---- one variable replaced

abbrev pub one : ℕ → Term → ℕ → Term
one k t j = if nat_eq j k then t else Var j

pub one_same : (k : ℕ) (t : Term) → one k t k ≡ t
one_same k t = ap (λ b. if b then t else Var k) (eq-eqb k k refl)

pub one_other : (k : ℕ) (t : Term) (j : ℕ) → nat_eq j k ≡ false → one k t j ≡ Var j
one_other k t j e = ap (λ b. if b then t else Var j) e

pub one_refined : (k : ℕ) (t : Term) (r : ℕ → Term) → r k ≡ substituted r t → (u : Term) → substituted r (substituted (one k t) u) ≡ substituted r u
one_refined k t r e u = after r (one k t) u ∙ agree (λ j. substituted r (one k t j)) r u (λ j h. elim (cases_Bool (nat_eq j k)) [
  | inl p ↦ let i = eqb-true j k p in ap (λ z. substituted r (one k t z)) i ∙ ap (substituted r) (one_same k t) ∙ sym e ∙ ap r (sym i)
  | inr p ↦ ap (substituted r) (one_other k t j p) ∙ substituted-Var r j
])

pub one_absent : (k : ℕ) (t u : Term) → has_variable k u ≡ false → substituted (one k t) u ≡ u
one_absent k t u e = agree (one k t) Var u (λ j h. elim (cases_Bool (nat_eq j k)) [
  | inl p ↦ absurd (let a = ap (λ i. has_variable i u) (sym (eqb-true j k p)) ∙ h in cc)
  | inr p ↦ one_other k t j p
]) ∙ same u

-- where a variable of a term with k replaced comes from
pub one_comes : (k : ℕ) (t : Term) (j : ℕ) (u : Term) → has_variable j (substituted (one k t) u) ≡ true → (has_variable j t ≡ true) ⊎ ((has_variable j u ≡ true) × (nat_eq j k ≡ false))
one_comes k t j u e =
    let w = comes (one k t) j u e in
    elim (cases_Bool (nat_eq w.0 k)) [
      | inl p ↦ let i = eqb-true w.0 k p in inl (sym (ap (has_variable j) (ap (one k t) i ∙ one_same k t)) ∙ w.2)
      | inr p ↦
          let i = is_variable w.0 j (one k t w.0) (one_other k t w.0 p) w.2 in
          inr (ap (λ n. has_variable n u) (sym i) ∙ w.1, ap (λ n. nat_eq n k) (sym i) ∙ p)
    ]

-- ---- the variables of a term with others put in

tests_joined : (k : ℕ) (m : ℕ → Term) (xs : List Term) → any_true (map (has_variable k) (map (substituted m) xs)) ≡ any_true (map (λ t. has_variable k (substituted m t)) xs)
tests_joined k m [] = refl
tests_joined k m (x ∷ xs) = ap (λ b. has_variable k (substituted m x) || b) (tests_joined k m xs)

pub in_variable : (k j : ℕ) (m : ℕ → Term) (t : Term) (found : Bool) → t ≡ Var j → found ≡ has_variable k (m j) → found ≡ has_variable k (substituted m t)
in_variable k j m t found e h = h ∙ ap (has_variable k) (sym (ap (substituted m) e ∙ substituted-Var m j))

pub in_application : (k : ℕ) (m : ℕ → Term) (f : SymKey) (args : List Term) (t : Term) (found : Bool) → t ≡ App f args → found ≡ any_true (map (λ u. has_variable k (substituted m u)) args) → found ≡ has_variable k (substituted m t)
in_application k m f args t found e h =
    h ∙ sym (ap (λ u. has_variable k (substituted m u)) e ∙ ap (has_variable k) (substituted-App m f args)
    ∙ has_variable-App k f (map (substituted m) args) ∙ tests_joined k m args)

pub in_any : (k : ℕ) (m : ℕ → Term) (t : Term) → t ≡ Any → false ≡ has_variable k (substituted m t)
in_any k m t e = sym (ap (λ u. has_variable k (substituted m u)) e ∙ ap (has_variable k) (substituted-Any m) ∙ has_variable-Any k)

-- ---- lists of terms

-- two lists are equal under a substitution up to a place
abbrev pub SameTo : (ℕ → Term) → List Term → List Term → ℕ → Type 0
SameTo r xs ys n = (k : ℕ) → k < n → (d : Term) → substituted r (get_or xs k d) ≡ substituted r (get_or ys k d)

pub same_maps : (r : ℕ → Term) (xs ys : List Term) → length xs ≡ length ys → SameTo r xs ys (length xs) → map (substituted r) xs ≡ map (substituted r) ys
same_maps r [] [] l h = refl
same_maps r [] (y ∷ ys) l h = absurd (omega arith)
same_maps r (x ∷ xs) [] l h = absurd (omega arith)
same_maps r (x ∷ xs) (y ∷ ys) l h =
    let a = h 0 (omega arith) x in
    let b = same_maps r xs ys (omega arith) (λ k m d. h (suc k) (omega arith) d) in cc

pub maps_same : (r : ℕ → Term) (xs ys : List Term) → map (substituted r) xs ≡ map (substituted r) ys → (k : ℕ) (d : Term) → substituted r (get_or xs k d) ≡ substituted r (get_or ys k d)
maps_same r [] [] e k d = refl
maps_same r [] (y ∷ ys) e k d = absurd (cc)
maps_same r (x ∷ xs) [] e k d = absurd (cc)
maps_same r (x ∷ xs) (y ∷ ys) e zero d = cc
maps_same r (x ∷ xs) (y ∷ ys) e (suc k) d = maps_same r xs ys (cc) k d

pub maps_long : (r : ℕ → Term) (xs ys : List Term) → map (substituted r) xs ≡ map (substituted r) ys → length xs ≡ length ys
maps_long r [] [] e = refl
maps_long r [] (y ∷ ys) e = absurd (cc)
maps_long r (x ∷ xs) [] e = absurd (cc)
maps_long r (x ∷ xs) (y ∷ ys) e = let h = maps_long r xs ys (cc) in omega arith

pub same_more : (r : ℕ → Term) (xs ys : List Term) (i : ℕ) (x y : Term) → x ≡ get_or xs i x → y ≡ get_or ys i y → i < length xs → i < length ys → SameTo r xs ys i → substituted r x ≡ substituted r y → SameTo r xs ys (i + 1)
same_more r xs ys i x y ex ey lx ly h q k m d = elim (or_equal k i m) [
  | inl p ↦ h k p d
  | inr p ↦ ap (λ j. substituted r (get_or xs j d)) p ∙ ap (substituted r) (get_or_default xs i d x lx ∙ sym ex) ∙ q ∙ ap (substituted r) (ey ∙ get_or_default ys i y d ly) ∙ ap (λ j. substituted r (get_or ys j d)) (sym p)
]

pub equal_here : (r : ℕ → Term) (xs ys : List Term) (i : ℕ) (x y : Term) → x ≡ get_or xs i x → y ≡ get_or ys i y → i < length xs → i < length ys → ((d : Term) → substituted r (get_or xs i d) ≡ substituted r (get_or ys i d)) → substituted r x ≡ substituted r y
equal_here r xs ys i x y ex ey lx ly h = ap (substituted r) ex ∙ h x ∙ ap (substituted r) (get_or_default ys i x y ly ∙ sym ey)
