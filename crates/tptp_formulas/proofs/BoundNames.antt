-- Names that are bound, and the numbers that variables get.
use Rattle.std.proofs.Common.{◌≡◌, ℕ, suc, ◌<◌, Bool, true, false, ◌&&◌, ◌||◌, if◌then◌else◌, List, [], ◌∷◌, ◌++◌, length, Option, Some, None, inl, inr, nat_eq, refl, sym, ap₂, subst, ◌∙◌, arith}
use Rattle.std.specs.Cmp.Lexicographic.{pointwise}
use Rattle.std.proofs.lemmas.List.Folds.{list_any-append}
use Rattle.std.proofs.lemmas.Bool.{and_parts, or_cases}
use Rattle.std.proofs.lemmas.Cmp.{nat_list_eq_equiv}
use Rattle.tptp_formulas.specs.Meaning.{number, number_or}
use Rattle.tptp_formulas.specs.Scopes.{Names, has_name, unbound, with_name, with_names}

or_right : (x y : Bool) → y ≡ true → (x || y) ≡ true
or_right true y e = refl
or_right false y e = e

or_left : (x y : Bool) → x ≡ true → (x || y) ≡ true
or_left true y e = refl
or_left false y e = cc

-- ---- numbers

-- the number, where there is one, is below the bound
abbrev pub IsBelow : Option ℕ → ℕ → Type 0
IsBelow None n = Unit {0}
IsBelow (Some k) n = k < n

number_or_below : (o : Option ℕ) (b : Bool) (n : ℕ) → IsBelow o n → IsBelow (number_or o b n) (suc n)
number_or_below None true n h = omega arith
number_or_below None false n h = tt
number_or_below (Some k) b n h = omega arith

number_below : (name : List ℕ) (bound : Names) → IsBelow (number name bound) (length bound)
number_below name [] = tt
number_below name (x ∷ xs) = number_or_below (number name xs) (pointwise nat_eq name x) (length xs) (number_below name xs)

-- the number is there, and below the bound
abbrev pub IsFoundBelow : Option ℕ → ℕ → Type 0
IsFoundBelow None n = ⊥
IsFoundBelow (Some k) n = k < n

found_here : (o : Option ℕ) (n : ℕ) → IsBelow o n → IsFoundBelow (number_or o true n) (suc n)
found_here None n h = omega arith
found_here (Some k) n h = omega arith

found_later : (o : Option ℕ) (b : Bool) (n : ℕ) → IsFoundBelow o n → IsFoundBelow (number_or o b n) (suc n)
found_later None b n h = absurd h
found_later (Some k) b n h = omega arith

-- a variable whose name is bound has a number below that of the names
pub number_found : (name : List ℕ) (bound : Names) → has_name bound name ≡ true → IsFoundBelow (number name bound) (length bound)
number_found name [] e = absurd cc
number_found name (x ∷ xs) e = elim (or_cases (pointwise nat_eq name x) (has_name xs name) e) [
  | inl here ↦ subst (λ (b : Bool). IsFoundBelow (number_or (number name xs) b (length xs)) (suc (length xs))) (sym here) (found_here (number name xs) (length xs) (number_below name xs))
  | inr later ↦ found_later (number name xs) (pointwise nat_eq name x) (length xs) (number_found name xs later)
]

-- ---- lists of names that are bound

-- each of the names is bound
abbrev pub all_bound : Names → Names → Bool
all_bound bound [] = true
all_bound bound (name ∷ rest) = has_name bound name && all_bound bound rest

both_true : (x y : Bool) → x ≡ true → y ≡ true → (x && y) ≡ true
both_true x y e k = ap₂ (λ a b. a && b) e k

pub bound-left : (bound xs ys : Names) → all_bound bound (xs ++ ys) ≡ true → all_bound bound xs ≡ true
bound-left bound [] ys e = refl
bound-left bound (x ∷ xs) ys e = let both = and_parts (has_name bound x) (all_bound bound (xs ++ ys)) e in
    both_true (has_name bound x) (all_bound bound xs) both.0 (bound-left bound xs ys both.1)

pub bound-right : (bound xs ys : Names) → all_bound bound (xs ++ ys) ≡ true → all_bound bound ys ≡ true
bound-right bound [] ys e = e
bound-right bound (x ∷ xs) ys e = let both = and_parts (has_name bound x) (all_bound bound (xs ++ ys)) e in bound-right bound xs ys both.1

has_either : (extra bound : Names) (name : List ℕ) → has_name (extra ++ bound) name ≡ (has_name extra name || has_name bound name)
has_either extra bound name = list_any-append (pointwise nat_eq name) extra bound

-- what is not bound is one of the extra names, so each is one of both
unbound_case : (b : Bool) (extra bound xs : Names) (x : List ℕ) → has_name bound x ≡ b → all_bound extra (if b then unbound bound xs else x ∷ unbound bound xs) ≡ true
    → (has_name (extra ++ bound) x ≡ true) × (all_bound extra (unbound bound xs) ≡ true)
unbound_case true extra bound xs x b e = (has_either extra bound x ∙ or_right (has_name extra x) (has_name bound x) b, e)
unbound_case false extra bound xs x b e = let both = and_parts (has_name extra x) (all_bound extra (unbound bound xs)) e in
    (has_either extra bound x ∙ or_left (has_name extra x) (has_name bound x) both.0, both.1)

pub bound_in_both : (extra bound xs : Names) → all_bound extra (unbound bound xs) ≡ true → all_bound (extra ++ bound) xs ≡ true
bound_in_both extra bound [] e = refl
bound_in_both extra bound (x ∷ xs) e = let both = unbound_case (has_name bound x) extra bound xs x refl e in
    both_true (has_name (extra ++ bound) x) (all_bound (extra ++ bound) xs) both.0 (bound_in_both extra bound xs both.1)

-- ---- names that were added are there

same_name : (name : List ℕ) → pointwise nat_eq name name ≡ true
same_name name = nat_list_eq_equiv.refl name

has_added : (b : Bool) (names : Names) (name : List ℕ) → has_name names name ≡ b → has_name (if b then names else names ++ name ∷ []) name ≡ true
has_added true names name e = e
has_added false names name e = has_either names (name ∷ []) name ∙ or_right (has_name names name) (pointwise nat_eq name name || false) (or_left (pointwise nat_eq name name) false (same_name name))

keeps_added : (b : Bool) (names : Names) (name other : List ℕ) → has_name names other ≡ true → has_name (if b then names else names ++ name ∷ []) other ≡ true
keeps_added true names name other e = e
keeps_added false names name other e = has_either names (name ∷ []) other ∙ or_left (has_name names other) (has_name (name ∷ []) other) e

keeps : (names rest : Names) (other : List ℕ) → has_name names other ≡ true → has_name (with_names names rest) other ≡ true
keeps names [] other e = e
keeps names (name ∷ rest) other e = keeps (with_name names name) rest other (keeps_added (has_name names name) names name other e)

-- each of the names that were added is there
pub with_names-bound : (names rest : Names) → all_bound (with_names names rest) rest ≡ true
with_names-bound names [] = refl
with_names-bound names (name ∷ rest) =
    both_true (has_name (with_names (with_name names name) rest) name) (all_bound (with_names (with_name names name) rest) rest)
    (keeps (with_name names name) rest name (has_added (has_name names name) names name refl)) (with_names-bound (with_name names name) rest)
