-- A clause with its own variables is true at all their values only where its row is, at any values of the universals.
use Rattle.std.proofs.Common.{◌≡◌, ℕ, suc, ◌+◌, inl, inr, true, ◌||◌, nat_eq, if◌then◌else◌, List, [], ◌∷◌, ◌++◌, map, refl, subst, sym, ap, ◌∙◌, arith}
use Rattle.std.proofs.lemmas.Bool.Decides.{nat_tests}
use Rattle.dk_syntax.specs.Symbols.{joined}
use Rattle.normal_form.proofs.AgreeingValues.{clause_agrees, has-append, same_number}
use Rattle.normal_form.proofs.BoolLaws.{and_both, or_of_left, or_of_right, test_cases}
use Rattle.normal_form.proofs.SoundLists.{clause-renamed, rows_truth}
use Rattle.normal_form.specs.ClauseLists.{has_number, literal_variables, quants_of, row_of, with_number, with_numbers}
use Rattle.normal_form.specs.ClauseTruth.{RowsHold, clause_truth}
use Rattle.normal_form.specs.Renaming.{owner, place_of}
use Rattle.normal_form.specs.Truth.{Interpretation}
use Rattle.normal_form.specs.declared.raw.Raw.{Raw}

-- ---- each number that is added stands in the list

has-more : (seen : List ℕ) (n k : ℕ) → has_number seen k ≡ true → has_number (with_number seen n) k ≡ true
has-more seen n k h = elim (test_cases (has_number seen n)) [
  | inl p ↦ ap (λ x. has_number (if x then seen else seen ++ n ∷ []) k) p ∙ h
  | inr p ↦
      ap (λ x. has_number (if x then seen else seen ++ n ∷ []) k) p
      ∙ has-append seen (n ∷ []) k ∙ or_of_left (has_number seen k) (has_number (n ∷ []) k) h
]

has-new : (seen : List ℕ) (n : ℕ) → has_number (with_number seen n) n ≡ true
has-new seen n = elim (test_cases (has_number seen n)) [
  | inl p ↦ ap (λ x. has_number (if x then seen else seen ++ n ∷ []) n) p ∙ p
  | inr p ↦
      ap (λ x. has_number (if x then seen else seen ++ n ∷ []) n) p
      ∙ has-append seen (n ∷ []) n
      ∙ or_of_right (has_number seen n) (has_number (n ∷ []) n) (or_of_left (nat_eq n n) (has_number [] n) (same_number n))
]

has-still : (xs seen : List ℕ) (k : ℕ) → has_number seen k ≡ true → has_number (with_numbers seen xs) k ≡ true
has-still [] seen k h = h
has-still (x ∷ xs) seen k h = has-still xs (with_number seen x) k (has-more seen x k h)

pub has-each : (xs seen : List ℕ) (k : ℕ) → has_number xs k ≡ true → has_number (with_numbers seen xs) k ≡ true
has-each [] seen k h = absurd (cc)
has-each (x ∷ xs) seen k h = elim (test_cases (nat_eq x k)) [
  | inl p ↦
      let one : x ≡ k = grind (arith, nat_tests) in
      has-still xs (with_number seen x) k (subst (λ (z : ℕ). has_number (with_number seen x) z ≡ true) one (has-new seen x))
  | inr p ↦ has-each xs (with_number seen x) k (ap (λ z. z || has_number xs k) (sym p) ∙ h)
]

-- at a number's place stands the number
pub owner-place : (ns : List ℕ) (n : ℕ) → has_number ns n ≡ true → owner ns (place_of ns n) ≡ n
owner-place [] n h = absurd (cc)
owner-place (m ∷ rest) n h = elim (test_cases (nat_eq m n)) [
  | inl p ↦
      let one : m ≡ n = grind (arith, nat_tests) in
      ap (λ x. owner (m ∷ rest) (if x then 0 else 1 + place_of rest n)) p ∙ one
  | inr p ↦
      let next : 1 + place_of rest n ≡ suc (place_of rest n) = omega arith in
      ap (λ x. owner (m ∷ rest) (if x then 0 else 1 + place_of rest n)) p ∙ ap (owner (m ∷ rest)) next
      ∙ owner-place rest n (ap (λ z. z || has_number rest n) (sym p) ∙ h)
]

-- ---- rows

module _ {D : Type 0} (i : Interpretation D) where
  row_holds : (row : Raw) → ((values : ℕ → D) → clause_truth i values (row_of row).clause.lits ≡ true) → (w : ℕ → D) → clause_truth i w row.lits ≡ true
  row_holds row holds w =
      let quants = quants_of row.lits in
      let values : ℕ → D = λ n. w (owner quants n) in
      clause_agrees i w (λ n. values (place_of quants n)) row.lits
      (λ k o. sym (ap w (owner-place quants k (has-each (joined (map literal_variables row.lits)) [] k o))))
      ∙ sym (clause-renamed i values (place_of quants) row.lits) ∙ holds values

  pub rows_hold : (rows : List Raw) → RowsHold i (map row_of rows) → (w : ℕ → D) → rows_truth i w rows ≡ true
  rows_hold [] holds w = refl
  rows_hold (row ∷ rest) holds w =
      and_both (clause_truth i w row.lits) (rows_truth i w rest) (row_holds row holds.0 w) (rows_hold rest holds.1 w)
