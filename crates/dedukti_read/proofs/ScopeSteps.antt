-- The search for the nearest binder of a name.
use Rattle.std.proofs.Common.{◌≡◌, ℕ, suc, ◌+◌, ◌-◌, ◌<◌, ◌≤◌, ◌++◌, true, false, List, [], ◌∷◌, length, take, get_or, Option, Some, None, refl, ap, ◌∙◌, arith}
use Rattle.std.specs.Prelude.{option_map, reverse}
use Rattle.std.proofs.lemmas.Grind.{common_steps}
use Rattle.std.proofs.lemmas.List.{reverse-append}
use Rattle.lp_read.specs.Scopes.{Scope, binder_of, is_bound}

-- behind so many binders more
abbrev pub behind : ℕ → Option ℕ → Option ℕ
behind between None = None
behind between (Some number) = Some (between + number)

pub behind_suc : (between : ℕ) (o : Option ℕ) → behind between (option_map suc o) ≡ behind (between + 1) o
behind_suc between None = refl
behind_suc between (Some number) = ap (λ (n : ℕ). (let o : Option ℕ = Some n in o)) (omega arith)

pub last_first : (names : Scope) (k : ℕ) (d : Option (List ℕ)) → k < length names → reverse (take (k + 1) names) ≡ get_or names k d ∷ reverse (take k names)
last_first names k d lt =
    let e : take (k + 1) names ≡ take k names ++ get_or names k d ∷ [] = grind (arith, common_steps) in
    ap reverse e ∙ reverse-append (take k names) (get_or names k d ∷ [])

pub passed : (names : Scope) (left between : ℕ) (name : List ℕ) (d : Option (List ℕ)) → 0 < left → left ≤ length names → is_bound (get_or names (left - 1) d) name ≡ false
    → behind between (binder_of (reverse (take left names)) name) ≡ behind (between + 1) (binder_of (reverse (take (left - 1) names)) name)
passed names left between name d some few e =
    let one : left ≡ left - 1 + 1 = omega arith in
    ap (λ (n : ℕ). behind between (binder_of (reverse (take n names)) name)) one
    ∙ ap (λ (x : Scope). behind between (binder_of x name)) (last_first names (left - 1) d (omega arith)) ∙ rw e (behind_suc between (binder_of (reverse (take (left - 1) names)) name))

pub found : (names : Scope) (left between : ℕ) (name : List ℕ) (d : Option (List ℕ)) → 0 < left → left ≤ length names → is_bound (get_or names (left - 1) d) name ≡ true
    → behind between (binder_of (reverse (take left names)) name) ≡ Some between
found names left between name d some few e =
    let one : left ≡ left - 1 + 1 = omega arith in
    ap (λ (n : ℕ). behind between (binder_of (reverse (take n names)) name)) one
    ∙ ap (λ (x : Scope). behind between (binder_of x name)) (last_first names (left - 1) d (omega arith)) ∙ rw e (ap (λ (n : ℕ). (let o : Option ℕ = Some n in o)) (omega arith))

pub none_passed : (o : Option ℕ) → behind 0 o ≡ o
none_passed None = refl
none_passed (Some number) = ap (λ (n : ℕ). (let o : Option ℕ = Some n in o)) (omega arith)

pub ruleset scope_steps = (common_steps, passed, found, none_passed)
