-- Laws of substitutions under quantifiers, and of the variables of what they put in.
use Rattle.std.proofs.Common.{◌≡◌, ◌-◌, ℕ, zero, suc, true, List, [], ◌∷◌, map, refl, sym, ap, ap₂, ◌∙◌, eq-eqb, arith, inl, inr}
use Rattle.std.proofs.lemmas.Bool.{eqb-true, or_cases, or_left, or_right}
use Rattle.dk_syntax.proofs.ListLaws.{ForEach}
use Rattle.dk_syntax.proofs.SubstitutionLaws.{after, agree, comes, has_variable-Any, has_variable-App, has_variable-Var, same, substituted-App, substituted-Var}
use Rattle.dk_syntax.proofs.TermLaws.{App-injective, term_induction, Var-injective}
use Rattle.dk_syntax.specs.Terms.{any_true, has_variable, instance, substituted}
use Rattle.dk_syntax.specs.declared.Literal.{Literal}
use Rattle.dk_syntax.specs.declared.SymKey.{SymKey}
use Rattle.dk_syntax.specs.declared.Term.{Term}
use Rattle.dk_syntax.specs.declared.Term.TheVariants.{App, Var}
use Rattle.step_skolem.specs.Substitutions.{applied, shifted, up, with_term}

-- functions that agree everywhere are equal
pub ext : {B : Type 0} {f g : ℕ → B} → ((n : ℕ) → f n ≡ g n) → f ≡ g
ext h = λ i n. h n i

pub agree_everywhere : (s t : ℕ → Term) → ((k : ℕ) → s k ≡ t k) → (u : Term) → substituted s u ≡ substituted t u
agree_everywhere s t h u = agree s t u (λ k w. h k)

-- ---- variables of a term that was put in

abbrev Keeps : (ℕ → Term) → ℕ → ℕ → Term → Type 0
Keeps s k j t = has_variable k t ≡ true → has_variable j (s k) ≡ true → has_variable j (substituted s t) ≡ true

keeps_all : (s : ℕ → Term) (k j : ℕ) (args : List Term) → ForEach (Keeps s k j) args → any_true (map (has_variable k) args) ≡ true → has_variable j (s k) ≡ true
    → any_true (map (has_variable j) (map (substituted s) args)) ≡ true
keeps_all s k j [] known h i = cc
keeps_all s k j (x ∷ xs) known h i = elim (or_cases (has_variable k x) (any_true (map (has_variable k) xs)) h) [
  | inl l ↦ or_left (has_variable j (substituted s x)) (any_true (map (has_variable j) (map (substituted s) xs))) (known.0 l i)
  | inr r ↦ or_right (has_variable j (substituted s x)) (any_true (map (has_variable j) (map (substituted s) xs))) (keeps_all s k j xs known.1 r i)
]

-- a variable of what stands for a variable
pub keeps : (s : ℕ → Term) (k j : ℕ) (t : Term) → Keeps s k j t
keeps s k j = term_induction (Keeps s k j)
    (λ n h i. ap (has_variable j) (substituted-Var s n) ∙ ap (λ m. has_variable j (s m)) (eqb-true n k (sym (has_variable-Var k n) ∙ h)) ∙ i)
    (λ f args known h i. ap (has_variable j) (substituted-App s f args) ∙ has_variable-App j f (map (substituted s) args) ∙ keeps_all s k j args known (sym (has_variable-App k f args) ∙ h) i)
    (λ h i. absurd (let a = has_variable-Any k in cc))

keeps_each : (s : ℕ → Term) (k j : ℕ) (args : List Term) → ForEach (Keeps s k j) args
keeps_each s k j [] = tt
keeps_each s k j (x ∷ xs) = (keeps s k j x, keeps_each s k j xs)

pub keeps_in_list : (s : ℕ → Term) (k j : ℕ) (args : List Term) → any_true (map (has_variable k) args) ≡ true → has_variable j (s k) ≡ true
    → any_true (map (has_variable j) (map (substituted s) args)) ≡ true
keeps_in_list s k j args h i = keeps_all s k j args (keeps_each s k j args) h i

-- ---- what a substituted term tells of the substitution

abbrev Tells : (ℕ → Term) → (ℕ → Term) → ℕ → Term → Type 0
Tells s r k t = has_variable k t ≡ true → substituted s t ≡ substituted r t → s k ≡ r k

tells_all : (s r : ℕ → Term) (k : ℕ) (args : List Term) → ForEach (Tells s r k) args → any_true (map (has_variable k) args) ≡ true
    → map (substituted s) args ≡ map (substituted r) args → s k ≡ r k
tells_all s r k [] known h e = cc
tells_all s r k (x ∷ xs) known h e =
    let first : substituted s x ≡ substituted r x = cc in
    let rest : map (substituted s) xs ≡ map (substituted r) xs = cc in
    elim (or_cases (has_variable k x) (any_true (map (has_variable k) xs)) h) [
      | inl l ↦ known.0 l first
      | inr m ↦ tells_all s r k xs known.1 m rest
    ]

-- what stands for a variable is told by what comes of a term in which it stands
pub tells : (s r : ℕ → Term) (k : ℕ) (t : Term) → Tells s r k t
tells s r k = term_induction (Tells s r k)
    (λ n h e. let i = eqb-true n k (sym (has_variable-Var k n) ∙ h) in ap s (sym i) ∙ sym (substituted-Var s n) ∙ e ∙ substituted-Var r n ∙ ap r i)
    (λ f args known h e. tells_all s r k args known (sym (has_variable-App k f args) ∙ h)
    (App-injective f f (map (substituted s) args) (map (substituted r) args) (sym (substituted-App s f args) ∙ e ∙ substituted-App r f args)).1)
    (λ h e. absurd (let a = has_variable-Any k in cc))

tells_each : (s r : ℕ → Term) (k : ℕ) (args : List Term) → ForEach (Tells s r k) args
tells_each s r k [] = tt
tells_each s r k (x ∷ xs) = (tells s r k x, tells_each s r k xs)

pub tells_in_list : (s r : ℕ → Term) (k : ℕ) (args : List Term) → any_true (map (has_variable k) args) ≡ true
    → map (substituted s) args ≡ map (substituted r) args → s k ≡ r k
tells_in_list s r k args h e = tells_all s r k args (tells_each s r k args) h e

-- ---- one quantifier more

pub variable_there : (k : ℕ) (t : Term) → t ≡ Var k → has_variable k t ≡ true
variable_there k t e = ap (has_variable k) e ∙ has_variable-Var k k ∙ eq-eqb k k refl

pub variable_same : (k j : ℕ) → has_variable j (Var k) ≡ true → k ≡ j
variable_same k j h = eqb-true k j (sym (has_variable-Var j k) ∙ h)

pub shifted_has : (t : Term) (j : ℕ) → has_variable j t ≡ true → has_variable (suc j) (shifted t) ≡ true
shifted_has t j h = keeps (λ k. Var (suc k)) j (suc j) t h (variable_there (suc j) (Var (suc j)) refl)

pub shifted_from : (t : Term) (i : ℕ) → has_variable i (shifted t) ≡ true → (j : ℕ) × (suc j ≡ i) × (has_variable j t ≡ true)
shifted_from t i h = let w = comes (λ k. Var (suc k)) i t h in (w.0, variable_same (suc w.0) i w.2, w.1)

lowered : Term → Term
lowered t = substituted (λ k. Var (k - 1)) t

back_at : (k : ℕ) → substituted (λ n. Var (n - 1)) (Var (suc k)) ≡ Var k
back_at k = substituted-Var (λ n. Var (n - 1)) (suc k) ∙ ap Var (omega arith)

lowered_shifted : (t : Term) → lowered (shifted t) ≡ t
unfolding lowered
lowered_shifted t = after (λ n. Var (n - 1)) (λ k. Var (suc k)) t ∙ agree_everywhere (λ k. substituted (λ n. Var (n - 1)) (Var (suc k))) Var back_at t ∙ same t

pub shifted_same : (t v : Term) → shifted t ≡ shifted v → t ≡ v
shifted_same t v e = sym (lowered_shifted t) ∙ ap lowered e ∙ lowered_shifted v

pub up_shifted : (s : ℕ → Term) (t : Term) → substituted (up s) (shifted t) ≡ shifted (substituted s t)
up_shifted s t =
    after (up s) (λ k. Var (suc k)) t
    ∙ agree_everywhere (λ k. substituted (up s) (Var (suc k))) (λ k. shifted (s k)) (λ k. substituted-Var (up s) (suc k)) t
    ∙ sym (after (λ k. Var (suc k)) s t)

up_up_at : (s q : ℕ → Term) (n : ℕ) → substituted (up s) (up q n) ≡ up (λ m. substituted s (q m)) n
up_up_at s q zero = substituted-Var (up s) 0
up_up_at s q (suc n) = up_shifted s (q n)

pub up_up : (s q : ℕ → Term) → (λ n. substituted (up s) (up q n)) ≡ up (λ m. substituted s (q m))
up_up s q = ext (up_up_at s q)

up_same_at : (k : ℕ) → up Var k ≡ Var k
up_same_at zero = refl
up_same_at (suc k) = substituted-Var (λ n. Var (suc n)) k

pub up_same : up Var ≡ Var
up_same = ext up_same_at

-- ---- a term for the variable of a quantifier that is left out

after_with_at : (q s : ℕ → Term) (t : Term) (k : ℕ) → substituted (with_term t q) (up s k) ≡ with_term t (λ n. substituted q (s n)) k
after_with_at q s t zero = substituted-Var (with_term t q) 0
after_with_at q s t (suc k) =
    after (with_term t q) (λ n. Var (suc n)) (s k)
    ∙ agree_everywhere (λ n. substituted (with_term t q) (Var (suc n))) q (λ n. substituted-Var (with_term t q) (suc n)) (s k)

pub after_with : (q s : ℕ → Term) (t : Term) → (λ k. substituted (with_term t q) (up s k)) ≡ with_term t (λ n. substituted q (s n))
after_with q s t = ext (after_with_at q s t)

with_after_at : (q s : ℕ → Term) (t v : Term) → substituted q t ≡ v → (k : ℕ) → substituted q (with_term t s k) ≡ with_term v (λ n. substituted q (s n)) k
with_after_at q s t v h zero = h
with_after_at q s t v h (suc k) = refl

pub with_after : (q s : ℕ → Term) (t v : Term) → substituted q t ≡ v → (λ k. substituted q (with_term t s k)) ≡ with_term v (λ n. substituted q (s n))
with_after q s t v h = ext (with_after_at q s t v h)

-- ---- symbols applied to variables

variables_same : (k l : List ℕ) → map Var k ≡ map Var l → k ≡ l
variables_same [] [] e = refl
variables_same [] (n ∷ l) e = cc
variables_same (m ∷ k) [] e = cc
variables_same (m ∷ k) (n ∷ l) e =
    let first : Var m ≡ Var n = cc in
    let rest : map Var k ≡ map Var l = cc in
    ap₂ (λ x y. x ∷ y) (Var-injective m n first) (variables_same k l rest)

pub applied_same : (f g : SymKey) (k l : List ℕ) → applied f k ≡ applied g l → (f ≡ g) × (k ≡ l)
applied_same f g k l e = let h = App-injective f g (map Var k) (map Var l) e in (h.0, variables_same k l h.1)

variables_moved : (s : ℕ → Term) (k l : List ℕ) → map s k ≡ map Var l → map (substituted s) (map Var k) ≡ map Var l
variables_moved s [] l e = e
variables_moved s (m ∷ k) [] e = cc
variables_moved s (m ∷ k) (n ∷ l) e =
    let first : s m ≡ Var n = cc in
    let rest : map s k ≡ map Var l = cc in
    ap₂ (λ x y. x ∷ y) (substituted-Var s m ∙ first) (variables_moved s k l rest)

pub applied_moved : (s : ℕ → Term) (f : SymKey) (k l : List ℕ) → map s k ≡ map Var l → substituted s (applied f k) ≡ applied f l
applied_moved s f k l e = substituted-App s f (map Var k) ∙ ap (App f) (variables_moved s k l e)

-- ---- literals

list_after : (s q : ℕ → Term) (args : List Term) → map (substituted s) (map (substituted q) args) ≡ map (substituted (λ k. substituted s (q k))) args
list_after s q [] = refl
list_after s q (x ∷ xs) = ap₂ (λ y ys. y ∷ ys) (after s q x) (list_after s q xs)

pub instance_after : (s q : ℕ → Term) (l : Literal) → instance s (instance q l) ≡ instance (λ k. substituted s (q k)) l
instance_after s q l = ap (λ (args : List Term). record { positive = l.positive; pred = l.pred; args = args }) (list_after s q l.args)

list_same : (args : List Term) → map (substituted Var) args ≡ args
list_same [] = refl
list_same (x ∷ xs) = ap₂ (λ y ys. y ∷ ys) (same x) (list_same xs)

pub instance_same : (l : Literal) → instance Var l ≡ l
instance_same l = ap (λ (args : List Term). record { positive = l.positive; pred = l.pred; args = args }) (list_same l.args)
