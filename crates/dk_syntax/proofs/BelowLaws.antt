-- Laws of terms whose variables are below a number, and that these are the terms closed under it.
use Rattle.std.proofs.Common.{◌≡◌, ◌<◌, ◌+◌, ℕ, zero, suc, true, List, [], ◌∷◌, map, get_or, length, nat_lt, arith, refl, subst, sym, ap, ◌∙◌, inl, inr}
use Rattle.std.proofs.lemmas.Bool.{and_parts, eq-eqb, eqb-true, or_cases, or_left, or_right}
use Rattle.std.proofs.lemmas.Bool.Decides.{nat_tests}
use Rattle.std.proofs.lemmas.List.{get_or_default}
use Rattle.dk_syntax.proofs.ListLaws.{ForEach, for_each, or_equal}
use Rattle.dk_syntax.proofs.SubstitutionLaws.{has_variable-Any, has_variable-App, has_variable-Var, is_variable}
use Rattle.dk_syntax.proofs.TermLaws.{term_induction}
use Rattle.dk_syntax.proofs.WellFormedLaws.{closed-Any, closed-App, closed-Var}
use Rattle.dk_syntax.specs.Terms.{Below, EachBelow, any_true, has_variable}
use Rattle.dk_syntax.specs.WellFormed.{all_true, literal_closed_under, term_closed_under}
use Rattle.dk_syntax.specs.declared.clause.Literal.{Literal}
use Rattle.dk_syntax.specs.declared.symbol.SymKey.{SymKey}
use Rattle.dk_syntax.specs.declared.term.Term.{Term}
use Rattle.dk_syntax.specs.declared.term.Term.TheVariants.{Any, App, Var}

pub variable_below : (n k : ℕ) (t : Term) → t ≡ Var k → k < n → Below n t
variable_below n k t e l j h = subst (λ i. i < n) (is_variable k j t e h) l

pub any_below : (n : ℕ) (t : Term) → t ≡ Any → Below n t
any_below n t e j h = absurd (let a = ap (has_variable j) e ∙ has_variable-Any j in cc)

pub application_below : (n : ℕ) (f : SymKey) (args zs : List Term) (t : Term) → t ≡ App f args → zs ≡ args → EachBelow n zs → Below n t
application_below n f args zs t e z all j h =
    all j (ap (λ us. any_true (map (has_variable j) us)) z ∙ sym (ap (has_variable j) e ∙ has_variable-App j f args) ∙ h)

pub below_args : (n : ℕ) (a : Term) (f : SymKey) (xs zs : List Term) → Below n a → a ≡ App f xs → zs ≡ xs → EachBelow n zs
below_args n a f xs zs b e z k h = b k (ap (has_variable k) e ∙ has_variable-App k f xs ∙ ap (λ v. any_true (map (has_variable k) v)) (sym z) ∙ h)

pub below_at : (n : ℕ) (ts : List Term) (i : ℕ) (x : Term) → ((k : ℕ) → any_true (map (has_variable k) ts) ≡ true → k < n) → i < length ts → x ≡ get_or ts i x → Below n x
below_at n [] i x b l e k h = absurd (omega arith)
below_at n (t ∷ ts) zero x b l e k h = b k (or_left (has_variable k t) (any_true (map (has_variable k) ts)) (ap (has_variable k) (sym e) ∙ h))
below_at n (t ∷ ts) (suc i) x b l e k h = below_at n ts i x (λ m d. b m (or_right (has_variable m t) (any_true (map (has_variable m) ts)) d)) (omega arith) e k h

-- the terms before a place are below n
abbrev pub BelowTo : ℕ → List Term → ℕ → Type 0
BelowTo n ts i = (k : ℕ) (d : Term) → k < i → Below n (get_or ts k d)

pub below_more : (n : ℕ) (ts : List Term) (i : ℕ) (x : Term) → i < length ts → x ≡ get_or ts i x → Below n x → BelowTo n ts i → BelowTo n ts (i + 1)
below_more n ts i x l e here all k d lt = elim (or_equal k i lt) [
  | inl p ↦ all k d p
  | inr p ↦ subst (Below n) (e ∙ get_or_default ts i x d l ∙ ap (λ j. get_or ts j d) (sym p)) here
]

pub all_below : (n : ℕ) (ts : List Term) → BelowTo n ts (length ts) → EachBelow n ts
all_below n [] all k h = absurd (cc)
all_below n (t ∷ ts) all k h = elim (or_cases (has_variable k t) (any_true (map (has_variable k) ts)) h) [
  | inl p ↦ all zero t (omega arith) k p
  | inr p ↦ all_below n ts (λ i d l. all (suc i) d (omega arith)) k p
]

-- ---- closed under a number is below it, and the other way round

abbrev IsBelowIfClosed : ℕ → Term → Type 0
IsBelowIfClosed n t = term_closed_under n t ≡ true → Below n t

abbrev IsClosedIfBelow : ℕ → Term → Type 0
IsClosedIfBelow n t = Below n t → term_closed_under n t ≡ true

less_if_test : (k n : ℕ) → nat_lt k n ≡ true → k < n
less_if_test k n h = grind (arith, nat_tests)

test_if_less : (k n : ℕ) → k < n → nat_lt k n ≡ true
test_if_less k n h = grind (arith, nat_tests)

each_below : (n : ℕ) (ts : List Term) → ForEach (IsBelowIfClosed n) ts → all_true (map (term_closed_under n) ts) ≡ true → EachBelow n ts
each_below n [] known h k stands = cc
each_below n (t ∷ ts) known h k stands =
    let parts = and_parts (term_closed_under n t) (all_true (map (term_closed_under n) ts)) h in
    elim (or_cases (has_variable k t) (any_true (map (has_variable k) ts)) stands) [
      | inl p ↦ known.0 parts.0 k p
      | inr p ↦ each_below n ts known.1 parts.1 k p
    ]

each_closed : (n : ℕ) (ts : List Term) → ForEach (IsClosedIfBelow n) ts → EachBelow n ts → all_true (map (term_closed_under n) ts) ≡ true
each_closed n [] known b = refl
each_closed n (t ∷ ts) known b =
    let here = known.0 (λ k h. b k (or_left (has_variable k t) (any_true (map (has_variable k) ts)) h)) in
    let rest = each_closed n ts known.1 (λ k h. b k (or_right (has_variable k t) (any_true (map (has_variable k) ts)) h)) in cc

-- a term that is closed under n has its variables below n
pub closed_below : (n : ℕ) (t : Term) → term_closed_under n t ≡ true → Below n t
closed_below n = term_induction (IsBelowIfClosed n)
    (λ k h j stands.
    let e : k ≡ j = eqb-true k j (sym (has_variable-Var j k) ∙ stands) in
    subst (λ i. i < n) e (less_if_test k n (sym (closed-Var k n) ∙ h)))
    (λ f args known h j stands. each_below n args known (sym (closed-App f args n) ∙ h) j (sym (has_variable-App j f args) ∙ stands))
    (λ h j stands. let e = has_variable-Any j in cc)

-- a term whose variables are below n is closed under n
pub below_closed : (n : ℕ) (t : Term) → Below n t → term_closed_under n t ≡ true
below_closed n = term_induction (IsClosedIfBelow n)
    (λ k b. closed-Var k n ∙ test_if_less k n (b k (has_variable-Var k k ∙ eq-eqb k k refl)))
    (λ f args known b. closed-App f args n ∙ each_closed n args known (λ j h. b j (has_variable-App j f args ∙ h)))
    (λ b. closed-Any n)

-- the same of terms
pub terms_closed_below : (n : ℕ) (ts : List Term) → all_true (map (term_closed_under n) ts) ≡ true → EachBelow n ts
terms_closed_below n ts h = each_below n ts (for_each (IsBelowIfClosed n) (closed_below n) ts) h

pub terms_below_closed : (n : ℕ) (ts : List Term) → EachBelow n ts → all_true (map (term_closed_under n) ts) ≡ true
terms_below_closed n ts b = each_closed n ts (for_each (IsClosedIfBelow n) (below_closed n) ts) b

-- the same of a literal
pub literal_closed_below : (n : ℕ) (literal : Literal) → literal_closed_under n literal ≡ true → EachBelow n literal.args
literal_closed_below n literal h = terms_closed_below n literal.args h

pub literal_below_closed : (n : ℕ) (literal : Literal) → EachBelow n literal.args → literal_closed_under n literal ≡ true
literal_below_closed n literal b = terms_below_closed n literal.args b
