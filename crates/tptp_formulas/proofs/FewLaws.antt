-- Of a list of names that holds no more than 1,000 none was left out.
use Rattle.std.proofs.Common.{◌≡◌, ℕ, ◌≤◌, ◌<◌, Bool, true, false, ◌||◌, nat_lt, if◌then◌else◌, ◌⊎◌, inl, inr, List, [], ◌∷◌, ◌++◌, length, Some, ltb-true, refl, sym, ap, subst, ◌∙◌, arith}
use Rattle.std.proofs.lemmas.Grind.{common_steps}
use Rattle.tptp_formulas.specs.FewNames.{few_names, with_few}
use Rattle.tptp_formulas.specs.Scopes.{Names, first_name, has_name, with_name, with_names}

if_longer : (b : Bool) (names : Names) (name : List ℕ) → length names ≤ length (if b then names else names ++ name ∷ [])
if_longer true names name = omega arith
if_longer false names name = grind (arith, common_steps)

-- names are never taken out
longer : (names rest : Names) → length names ≤ length (with_names names rest)
longer names [] = omega arith
longer names (name ∷ rest) = let h = if_longer (has_name names name) names name in let k = longer (with_name names name) rest in omega arith

-- the list that is kept is the whole list, or both have more than 1,000
abbrev pub IsKept : Names → Names → Type 0
IsKept few all = (few ≡ all) ⊎ ((1000 < length few) × (1000 < length all))

full_step : (names : Names) (name : List ℕ) → nat_lt 1000 (length names) ≡ true → with_few names name ≡ names
full_step names name e = ap (λ b. if b || has_name names name then names else names ++ name ∷ []) e

few_step : (names : Names) (name : List ℕ) → nat_lt 1000 (length names) ≡ false → with_few names name ≡ with_name names name
few_step names name e = ap (λ b. if b || has_name names name then names else names ++ name ∷ []) e

full_stays : (names rest : Names) → nat_lt 1000 (length names) ≡ true → few_names names rest ≡ names
full_stays names [] e = refl
full_stays names (name ∷ rest) e = ap (λ (ns : Names). few_names ns rest) (full_step names name e) ∙ full_stays names rest e

kept_full : (names rest : Names) (name : List ℕ) → nat_lt 1000 (length names) ≡ true → IsKept (few_names names (name ∷ rest)) (with_names names (name ∷ rest))
kept_full names rest name e =
    let lt : 1000 < length names = ltb-true 1000 (length names) e in let h = longer names (name ∷ rest) in
    inr (subst (λ (ns : Names). 1000 < length ns) (sym (full_stays names (name ∷ rest) e)) lt, omega arith)

kept_case : (b : Bool) (names rest : Names) (name : List ℕ) → nat_lt 1000 (length names) ≡ b → IsKept (few_names (with_name names name) rest) (with_names (with_name names name) rest) → IsKept (few_names names (name ∷ rest)) (with_names names (name ∷ rest))
kept_case true names rest name e known = kept_full names rest name e
kept_case false names rest name e known = subst (λ (ns : Names). IsKept (few_names ns rest) (with_names (with_name names name) rest)) (sym (few_step names name e)) known

pub few-kept : (names rest : Names) → IsKept (few_names names rest) (with_names names rest)
few-kept names [] = inl refl
few-kept names (name ∷ rest) = kept_case (nat_lt 1000 (length names)) names rest name refl (few-kept (with_name names name) rest)

-- ---- the first name

starts : (b : Bool) (first : List ℕ) (names : Names) (name : List ℕ) → (tail : Names) × ((if b then first ∷ names else (first ∷ names) ++ name ∷ []) ≡ first ∷ tail)
starts true first names name = (names, refl)
starts false first names name = (names ++ name ∷ [], refl)

keeps_first : (first : List ℕ) (names rest : Names) → first_name (with_names (first ∷ names) rest) ≡ Some first
keeps_first first names [] = refl
keeps_first first names (name ∷ rest) = let s = starts (has_name (first ∷ names) name) first names name in
    ap (λ (ns : Names). first_name (with_names ns rest)) s.1 ∙ keeps_first first s.0 rest

few_keep_first : (first : List ℕ) (names rest : Names) → first_name (few_names (first ∷ names) rest) ≡ Some first
few_keep_first first names [] = refl
few_keep_first first names (name ∷ rest) = let s = starts (nat_lt 1000 (length (first ∷ names)) || has_name (first ∷ names) name) first names name in
    ap (λ (ns : Names). first_name (few_names ns rest)) s.1 ∙ few_keep_first first s.0 rest

-- the first name is never left out
pub few-first : (names : Names) → first_name (few_names [] names) ≡ first_name (with_names [] names)
few-first [] = refl
few-first (first ∷ rest) = few_keep_first first [] rest ∙ sym (keeps_first first [] rest)
