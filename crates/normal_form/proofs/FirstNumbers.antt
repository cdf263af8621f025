-- Lists to which numbers are added, and places in them.
use Rattle.std.proofs.Common.{append_assoc, ◌≡◌, ◌≤◌, ℕ, ◌+◌, Bool, inl, inr, true, false, ◌||◌, nat_eq, nat_lt, if◌then◌else◌, List, [], ◌∷◌, ◌++◌, length, Some, None, refl, sym, ap, ap₂, ◌∙◌, arith}
use Rattle.std.proofs.lemmas.Bool.Decides.{nat_tests}
use Rattle.std.proofs.lemmas.Grind.{common_steps}
use Rattle.std.proofs.lemmas.List.Recursion.{is_position_or_len}
use Rattle.std.specs.List.{list_any, position, position_or_len}
use Rattle.dk_syntax.specs.declared.Formula.{the_lemmas as of_formulas}
use Rattle.dk_syntax.specs.declared.Term.{the_lemmas as of_terms}
use Rattle.normal_form.proofs.BoolLaws.{test_cases}
use Rattle.normal_form.specs.ClauseLists.{has_number, with_number, with_numbers}
use Rattle.normal_form.specs.Renaming.{place_of}

-- numbers may be added in two parts
pub with_numbers-append : (seen xs ys : List ℕ) → with_numbers seen (xs ++ ys) ≡ with_numbers (with_numbers seen xs) ys
with_numbers-append seen [] ys = refl
with_numbers-append seen (x ∷ xs) ys = with_numbers-append (with_number seen x) xs ys

same_either_way : (m n : ℕ) → nat_eq m n ≡ nat_eq n m
same_either_way m n = grind (arith, nat_tests)

-- a set adds a number as the list of its keys does
has_any : (keys : List ℕ) (n : ℕ) → has_number keys n ≡ list_any (nat_eq n) keys
has_any [] n = refl
has_any (m ∷ rest) n = ap₂ (λ here there. here || there) (same_either_way m n) (has_any rest n)

pub added : (keys : List ℕ) (n : ℕ) → (if list_any (nat_eq n) keys then keys else keys ++ n ∷ []) ≡ with_number keys n
added keys n = ap (λ b. if b then keys else keys ++ n ∷ []) (sym (has_any keys n))

-- a number's place is its index among the keys
first_place : (keys : List ℕ) (n : ℕ) → place_of keys n ≡ position_or_len (nat_eq n) keys
first_place keys n =
    is_position_or_len (λ xs. place_of xs n) (nat_eq n) refl (λ m rest. ap (λ b. if b then 0 else 1 + place_of rest n) (same_either_way m n)) keys

place_within : (keys : List ℕ) (n : ℕ) → place_of keys n ≤ length keys
place_within [] n = omega arith
place_within (m ∷ rest) n = let h = place_within rest n in elim (test_cases (nat_eq m n)) [
  | inl p ↦ let e : place_of (m ∷ rest) n ≡ 0 = ap (λ b. if b then 0 else 1 + place_of rest n) p in omega arith
  | inr p ↦ let e : place_of (m ∷ rest) n ≡ 1 + place_of rest n = ap (λ b. if b then 0 else 1 + place_of rest n) p in omega arith
]

pub place_found : (keys : List ℕ) (n i : ℕ) → Some i ≡ position (nat_eq n) keys → i ≡ place_of keys n
place_found keys n i e =
    let place = position_or_len (nat_eq n) keys in
    elim (test_cases (nat_lt place (length keys))) [
      | inl p ↦
          let f : Some i ≡ Some place = e ∙ ap (λ b. if b then Some place else None) p in
          let g : i ≡ place = grind arith in g ∙ sym (first_place keys n)
      | inr p ↦ absurd (let f : Some i ≡ None = e ∙ ap (λ b. if b then Some place else None) p in cc)
    ]

pub place_absent : (keys : List ℕ) (n : ℕ) → None ≡ position (nat_eq n) keys → length keys ≡ place_of keys n
place_absent keys n e =
    let place = position_or_len (nat_eq n) keys in
    let same = first_place keys n in
    let within = place_within keys n in
    elim (test_cases (nat_lt place (length keys))) [
      | inl p ↦ absurd (let f : None ≡ Some place = e ∙ ap (λ b. if b then Some place else None) p in cc)
      | inr p ↦ grind (arith, nat_tests)
    ]

pub ruleset number_steps = (common_steps, with_numbers-append, added, of_terms)

pub ruleset place_steps = (common_steps, append_assoc, of_terms, of_formulas, place_found, place_absent)
