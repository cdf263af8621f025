-- Laws on lists of names.
use Rattle.std.proofs.Common.{◌≡◌, ℕ, suc, ◌<◌, ◌≤◌, Bool, true, false, not, nat_eq, if◌then◌else◌, ◌||◌, List, [], ◌∷◌, ◌++◌, length, drop, get_or, inr, refl, sym, ap, ◌∙◌, arith, Vec, Global, drop-cons}
use Rattle.std.proofs.lemmas.List.{length-append}
use Rattle.std.specs.List.{list_any}
use Rattle.std.specs.Cmp.Lexicographic.{pointwise}
use Rattle.indexmap.specs.IndexSet.{insert_key}
use Rattle.tstp_trace.specs.Names.{AreOnce, bytes_of, each_once, is_among, with_name, with_names}

-- ---- keys

-- a test of the keys' bytes
pub any_of_bytes : (test : List ℕ → Bool) (keys : List (Vec ℕ Global)) → list_any (λ key. test key.items) keys ≡ list_any test (bytes_of keys)
any_of_bytes test [] = refl
any_of_bytes test (key ∷ keys) = ap (λ b. test key.items || b) (any_of_bytes test keys)

bytes_append : (keys : List (Vec ℕ Global)) (key : Vec ℕ Global) → bytes_of (keys ++ key ∷ []) ≡ bytes_of keys ++ key.items ∷ []
bytes_append [] key = refl
bytes_append (first ∷ keys) key = ap (λ l. first.items ∷ l) (bytes_append keys key)

bytes_by_test : (b : Bool) (keys : List (Vec ℕ Global)) (key : Vec ℕ Global) → bytes_of (if b then keys else keys ++ key ∷ []) ≡ (if b then bytes_of keys else bytes_of keys ++ key.items ∷ [])
bytes_by_test true keys key = refl
bytes_by_test false keys key = bytes_append keys key

-- the keys after one is put in
pub keys_with_name : (keys after : List (Vec ℕ Global)) (key : Vec ℕ Global) (name : List ℕ) → key.items ≡ name → after ≡ insert_key (λ (a b : Vec ℕ Global). pointwise nat_eq a.items b.items) keys key
    → bytes_of after ≡ with_name (bytes_of keys) name
keys_with_name keys after key name same is =
    ap bytes_of is ∙ (bytes_by_test (list_any (λ (b : Vec ℕ Global). pointwise nat_eq key.items b.items) keys) keys key
    ∙ (ap (λ b. if b then bytes_of keys else bytes_of keys ++ key.items ∷ []) (any_of_bytes (pointwise nat_eq key.items) keys) ∙ ap (with_name (bytes_of keys)) same))

-- whether the key is new
pub key_is_new : (keys : List (Vec ℕ Global)) (key : Vec ℕ Global) (name : List ℕ) (fresh : Bool) → key.items ≡ name → fresh ≡ not (list_any (λ (b : Vec ℕ Global). pointwise nat_eq key.items b.items) keys)
    → fresh ≡ not (is_among (bytes_of keys) name)
key_is_new keys key name fresh same is = is ∙ ap not (any_of_bytes (pointwise nat_eq key.items) keys ∙ ap (is_among (bytes_of keys)) same)

-- ---- each name once

with_name_longer : (seen : List (List ℕ)) (name : List ℕ) → length seen ≤ length (with_name seen name)
with_name_longer seen name = by_test (is_among seen name)
  where
    by_test : (b : Bool) → length seen ≤ length (if b then seen else seen ++ name ∷ [])
    by_test true = omega arith
    by_test false = let e = length-append seen (name ∷ []) in omega arith

-- names that are added make a list no shorter
pub with_names_longer : (seen rest : List (List ℕ)) → length seen ≤ length (with_names seen rest)
with_names_longer seen [] = omega arith
with_names_longer seen (name ∷ rest) = let a = with_name_longer seen name in let b = with_names_longer (with_name seen name) rest in omega arith

-- more names than the limit were seen, so there are more
pub once_enough : (limit : ℕ) (names : List (List ℕ)) (i : ℕ) (seen after : List (List ℕ)) (name : List ℕ) → i < length names → name ≡ get_or names i name → with_names seen (drop i names) ≡ each_once names → after ≡ with_name seen name
    → limit < length after → AreOnce limit names after
once_enough limit names i seen after name below is so_far now many =
    let rest : drop i names ≡ name ∷ drop (suc i) names = drop-cons names i name below ∙ ap (λ x. x ∷ drop (suc i) names) (sym is) in
    let whole : each_once names ≡ with_names (with_name seen name) (drop (suc i) names) = sym so_far ∙ ap (with_names seen) rest in
    let long = with_names_longer (with_name seen name) (drop (suc i) names) in
    let same = ap length now in
    let total = ap length whole in
    inr (many, omega arith)
