-- Places by names.
use Rattle.std.proofs.Common.{◌≡◌, ◌+◌, ◌-◌, ◌<◌, ◌≤◌, ℕ, zero, suc, Bool, true, false, not, cond, nat_lt, unwrap_or, List, [], ◌∷◌, drop, length, get_or, Option, None, Some, refl, sym, ap, ◌∙◌, arith}
use Rattle.std.specs.List.{position_or_len}
use Rattle.std.specs.Str.{bytes_eq}
use Rattle.std.proofs.lemmas.Bool.Decides.{nat_tests, same_from_decides}
use Rattle.std.proofs.lemmas.Slice.Eq.{bytes_eq-Decides}
use Rattle.development.specs.PlaceMaps.{place_from}
use Rattle.dk_syntax.specs.declared.Named.{Named}
use Rattle.plan_typing.specs.Reasons.{place_named}
use Rattle.step_check.specs.Steps.{has_name}

pub flipped : (a b : List ℕ) → bytes_eq a b ≡ bytes_eq b a
flipped a b =
    let other = bytes_eq-Decides b a in
    same_from_decides (bytes_eq a b) (bytes_eq b a) (bytes_eq-Decides a b) (λ h. sym (other.0 h), λ p. other.1 (sym p))

pub place_step : (name : List ℕ) (left : ℕ) (hyps : List Named) (x : Named) → 0 < left → left ≤ length hyps → get_or hyps (left - 1) x ≡ x
    → place_from name (left - 1) (drop (left - 1) hyps) ≡ cond (has_name name x) (Some (left - 1)) (place_from name left (drop left hyps))
place_step name left hyps x p h e =
    let next : left - 1 + 1 ≡ left = omega arith in
    let k : suc (left - 1) ≡ left = omega arith in
    let within : left - 1 < length hyps = omega arith in
    ap (place_from name (left - 1)) (drop_one hyps (left - 1) x within e)
    ∙ ap (cond (has_name name x) (Some (left - 1))) ((λ i. place_from name (next i) (drop (k i) hyps)))
  where
    drop_one : (l : List Named) (k : ℕ) (a : Named) → k < length l → get_or l k a ≡ a → drop k l ≡ a ∷ drop (suc k) l
    drop_one [] k a h e = absurd (omega arith)
    drop_one (b ∷ l) zero a h e = ap (λ y. y ∷ l) e
    drop_one (b ∷ l) (suc k) a h e = drop_one l k a (omega arith) e

by_test : (b : Bool) (p m n : ℕ) (r : Option ℕ) → r ≡ cond (nat_lt p m) (Some (n + 1 + p)) None
    → cond b (Some n) r ≡ cond (nat_lt (cond (not b) (1 + p) 0) (suc m)) (Some (n + cond (not b) (1 + p) 0)) None
by_test true p m n r e = grind (arith, nat_tests)
by_test false p m n r e = grind (arith, nat_tests)

place_is : (name : List ℕ) (first : ℕ) (hyps : List Named)
    → place_from name first hyps ≡ cond (nat_lt (position_or_len (has_name name) hyps) (length hyps)) (Some (first + position_or_len (has_name name) hyps)) None
place_is name first [] = refl
place_is name first (one ∷ rest) =
    by_test (has_name name one) (position_or_len (has_name name) rest) (length rest) first (place_from name (first + 1) rest) (place_is name (first + 1) rest)

-- it is the first place of the name
pub place_named_is : (name : List ℕ) (hyps : List Named) → unwrap_or (place_from name 0 hyps) 0 ≡ place_named hyps name
place_named_is name hyps =
    let place = position_or_len (has_name name) hyps in
    let same : 0 + place ≡ place = omega arith in
    ap (λ o. unwrap_or o 0) (place_is name 0 hyps ∙ ap (λ j. cond (nat_lt place (length hyps)) (Some j) None) same)
