-- The sizes of a clause list, without the list, and products of numbers that are known up to the greatest `u64`.
use Rattle.std.proofs.Common.{append_assoc, ◌≡◌, ◌≤◌, ◌⊎◌, inl, inr, ℕ, zero, suc, ◌+◌, ◌*◌, nat_lt, Bool, true, false, List, [], ◌∷◌, ◌++◌, length, length-append, map, mul-le-mul, refl, sym, ap, ap₂, ◌∙◌, arith, rules}
use lib.ListN.{length-map}
use Rattle.std.proofs.lemmas.Bool.Decides.{nat_tests}
use Rattle.std.proofs.lemmas.Grind.{common_steps}
use Rattle.dk_syntax.specs.Depth.{capped}
use Rattle.normal_form.proofs.BoolLaws.{test_cases}
use Rattle.normal_form.proofs.FormInduction.{form_induction}
use Rattle.normal_form.specs.ClauseLists.{beside, clause_rows, literal_count, pairs_of, quants_of, row_of, rows_of, taking, totals}
use Rattle.normal_form.specs.Renaming.{place_of, renamed_literal}
use Rattle.normal_form.specs.declared.form.Nf.{Nf, the_lemmas as of_forms}
use Rattle.normal_form.specs.declared.form.Nf.TheVariants as nf
use Rattle.normal_form.specs.declared.raw.Raw.{Raw}

-- ---- products

at_most : (x : ℕ) → x ≤ 18446744073709551615 → capped x ≡ x
at_most x h = omega arith

at_least : (x : ℕ) → 18446744073709551615 ≤ x → capped x ≡ 18446744073709551615
at_least x h = omega arith

above_left : (a b : ℕ) → 18446744073709551615 ≤ a → 1 ≤ b → 18446744073709551615 ≤ a * b
above_left a b h k = let p : 18446744073709551615 * 1 ≤ a * b = mul-le-mul h k in omega arith

above_right : (a b : ℕ) → 1 ≤ a → 18446744073709551615 ≤ b → 18446744073709551615 ≤ a * b
above_right a b h k = let p : 1 * 18446744073709551615 ≤ a * b = mul-le-mul h k in omega arith

over_limit : (a : ℕ) → (18446744073709551615 ≤ a) ⊎ (a ≤ 18446744073709551615)
over_limit a = elim (test_cases (nat_lt a 18446744073709551615)) [
  | inl p ↦ inr (grind (arith, nat_tests))
  | inr p ↦ inl (grind (arith, nat_tests))
]

pub capped_product : (a b : ℕ) → capped (capped a * capped b) ≡ capped (a * b)
capped_product zero b = omega arith
capped_product (suc a) zero = omega arith
capped_product (suc a) (suc b) = elim (over_limit (suc a)) [
  | inl p ↦
      at_least (capped (suc a) * capped (suc b)) (above_left (capped (suc a)) (capped (suc b)) (omega arith) (omega arith))
      ∙ sym (at_least (suc a * suc b) (above_left (suc a) (suc b) p (omega arith)))
  | inr p ↦ elim (over_limit (suc b)) [
    | inl q ↦
        at_least (capped (suc a) * capped (suc b)) (above_right (capped (suc a)) (capped (suc b)) (omega arith) (omega arith))
        ∙ sym (at_least (suc a * suc b) (above_right (suc a) (suc b) (omega arith) q))
    | inr q ↦ ap capped (ap₂ (λ x y. x * y) (at_most (suc a) p) (at_most (suc b) q))
  ]
]

-- ---- lists

-- the literals of all rows
abbrev pub literals_in : List Raw → ℕ
literals_in [] = 0
literals_in (row ∷ rest) = length row.lits + literals_in rest

abbrev pub Counted : Nf → Type 0
Counted a = (next : ℕ) (around : List ℕ) → (length ((rows_of a).1 next around) ≡ (totals a).0) × (literals_in ((rows_of a).1 next around) ≡ (totals a).1)

literals-append : (xs ys : List Raw) → literals_in (xs ++ ys) ≡ literals_in xs + literals_in ys
literals-append [] ys = sym (omega arith)
literals-append (x ∷ xs) ys = let h = literals-append xs ys in omega arith

literals-taking : (side : Bool) (xs : List Raw) → literals_in (map (taking side) xs) ≡ literals_in xs
literals-taking side [] = refl
literals-taking side (x ∷ xs) = ap (λ n. length x.lits + n) (literals-taking side xs)

literals-beside : (x : Raw) (ys : List Raw) → literals_in (map (beside x) ys) ≡ length x.lits * length ys + literals_in ys
literals-beside x [] = omega arith
literals-beside x (y ∷ ys) = let h = literals-beside x ys in let l = length-append x.lits y.lits in grind (arith, common_steps)

length-pairs : (xs ys : List Raw) → length (pairs_of xs ys) ≡ length xs * length ys
length-pairs [] ys = omega arith
length-pairs (x ∷ xs) ys = let h = length-pairs xs ys in let l = length-append (map (beside x) ys) (pairs_of xs ys) in let m = length-map ys (beside x) in grind (arith, common_steps)

literals-pairs : (xs ys : List Raw) → literals_in (pairs_of xs ys) ≡ literals_in xs * length ys + length xs * literals_in ys
literals-pairs [] ys = omega arith
literals-pairs (x ∷ xs) ys = let h = literals-pairs xs ys in let l = literals-append (map (beside x) ys) (pairs_of xs ys) in let m = literals-beside x ys in grind (arith, common_steps)

pub counted : (a : Nf) → Counted a
counted = form_induction Counted
    (λ n r. (let q : length ((rows_of nf.True).1 n r) ≡ (totals nf.True).0 = grind (arith, common_steps, of_forms) in q, let q : literals_in ((rows_of nf.True).1 n r) ≡ (totals nf.True).1 = grind (arith, common_steps, of_forms) in q))
    (λ n r. (let q : length ((rows_of nf.False).1 n r) ≡ (totals nf.False).0 = grind (arith, common_steps, of_forms) in q, let q : literals_in ((rows_of nf.False).1 n r) ≡ (totals nf.False).1 = grind (arith, common_steps, of_forms) in q))
    (λ l n r. (let q : length ((rows_of (nf.Lit l)).1 n r) ≡ (totals (nf.Lit l)).0 = grind (arith, common_steps, of_forms) in q, let q : literals_in ((rows_of (nf.Lit l)).1 n r) ≡ (totals (nf.Lit l)).1 = grind (arith, common_steps, of_forms) in q))
    (λ a b g h n r.
    let q : rows_of (nf.And a b) ≡ ((rows_of a).0 + (rows_of b).0, λ n r. map (taking false) ((rows_of a).1 n r) ++ map (taking true) ((rows_of b).1 (n + (rows_of a).0) r)) = search (rules, of_forms) in
    let t : totals (nf.And a b) ≡ ((totals a).0 + (totals b).0, (totals a).1 + (totals b).1) = search (rules, of_forms) in
    let xs = (rows_of a).1 n r in let ys = (rows_of b).1 (n + (rows_of a).0) r in (
      ap (λ z. length (z.1 n r)) q ∙ length-append (map (taking false) xs) (map (taking true) ys) ∙ ap₂ (λ u v. u + v) (length-map xs (taking false) ∙ (g n r).0) (length-map ys (taking true) ∙ (h (n + (rows_of a).0) r).0) ∙ sym (ap (λ z. z.0) t),
      ap (λ z. literals_in (z.1 n r)) q ∙ literals-append (map (taking false) xs) (map (taking true) ys) ∙ ap₂ (λ u v. u + v) (literals-taking false xs ∙ (g n r).1) (literals-taking true ys ∙ (h (n + (rows_of a).0) r).1) ∙ sym (ap (λ z. z.1) t),
    ))
    (λ a b g h n r.
    let q : rows_of (nf.Or a b) ≡ ((rows_of a).0 + (rows_of b).0, λ n r. pairs_of ((rows_of a).1 n r) ((rows_of b).1 (n + (rows_of a).0) r)) = search (rules, of_forms) in
    let t : totals (nf.Or a b) ≡ ((totals a).0 * (totals b).0, (totals a).1 * (totals b).0 + (totals a).0 * (totals b).1) = search (rules, of_forms) in
    let xs = (rows_of a).1 n r in let ys = (rows_of b).1 (n + (rows_of a).0) r in
    let p = g n r in let s = h (n + (rows_of a).0) r in (
      ap (λ z. length (z.1 n r)) q ∙ length-pairs xs ys ∙ ap₂ (λ u v. u * v) p.0 s.0 ∙ sym (ap (λ z. z.0) t),
      ap (λ z. literals_in (z.1 n r)) q ∙ literals-pairs xs ys ∙ ap₂ (λ u v. u + v) (ap₂ (λ u v. u * v) p.1 s.0) (ap₂ (λ u v. u * v) p.0 s.1) ∙ sym (ap (λ z. z.1) t),
    ))
    (λ a g n r.
    let q : rows_of (nf.All a) ≡ (1 + (rows_of a).0, λ n r. (rows_of a).1 (n + 1) (n ∷ r)) = search (rules, of_forms) in
    let t : totals (nf.All a) ≡ totals a = search (rules, of_forms) in
    (ap (λ z. length (z.1 n r)) q ∙ (g (n + 1) (n ∷ r)).0 ∙ sym (ap (λ z. z.0) t), ap (λ z. literals_in (z.1 n r)) q ∙ (g (n + 1) (n ∷ r)).1 ∙ sym (ap (λ z. z.1) t)))
    (λ a g n r. (let q : length ((rows_of (nf.Ex a)).1 n r) ≡ (totals (nf.Ex a)).0 = grind (arith, common_steps, of_forms) in q, let q : literals_in ((rows_of (nf.Ex a)).1 n r) ≡ (totals (nf.Ex a)).1 = grind (arith, common_steps, of_forms) in q))

-- numbering the variables keeps the literals
literals-rows : (rows : List Raw) → literal_count (map row_of rows) ≡ literals_in rows
literals-rows [] = refl
literals-rows (row ∷ rest) = let here = length-map row.lits (renamed_literal (place_of (quants_of row.lits))) in ap₂ (λ m n. m + n) here (literals-rows rest)

-- the counts are those of the clause list
pub clauses-counted : (a : Nf) → length (clause_rows a) ≡ (totals a).0
clauses-counted a = length-map ((rows_of a).1 0 []) row_of ∙ (counted a 0 []).0

pub literals-counted : (a : Nf) → literal_count (clause_rows a) ≡ (totals a).1
literals-counted a = literals-rows ((rows_of a).1 0 []) ∙ (counted a 0 []).1

pub ruleset total_steps = (common_steps, of_forms, capped_product)

pub ruleset list_steps = (common_steps, append_assoc, clauses-counted, literals-counted)
