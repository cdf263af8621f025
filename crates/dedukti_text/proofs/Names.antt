-- Lists of names to which names are added.
use Rattle.std.proofs.Common.{◌≡◌, ◌||◌, ℕ, Bool, true, false, if◌then◌else◌, List, [], ◌∷◌, ◌++◌, map, nat_eq, refl, sym, ◌∙◌, ap}
use Rattle.std.proofs.lemmas.List.{map-append}
use Rattle.std.specs.Cmp.Lexicographic.{pointwise}
use Rattle.std.specs.List.{list_any}
use Rattle.std.specs.declared.alloc.Global.{Global}
use Rattle.std.specs.declared.vec.Vec.{Vec}
use Rattle.indexmap.specs.IndexSet.{insert_key}
use Rattle.dedukti_text.specs.Patterns.{with_name, with_names}
use Rattle.dedukti_text.specs.Walks.{names_of}

-- names may be added in two parts
pub with_names-append : (seen xs ys : List (List ℕ)) → with_names seen (xs ++ ys) ≡ with_names (with_names seen xs) ys
with_names-append seen [] ys = refl
with_names-append seen (x ∷ xs) ys = with_names-append (with_name seen x) xs ys

any_name : (test : List ℕ → Bool) (keys : List (Vec ℕ Global)) → list_any (λ (key : Vec ℕ Global). test key.items) keys ≡ list_any test (names_of keys)
any_name test [] = refl
any_name test (key ∷ keys) = ap (λ b. test key.items || b) (any_name test keys)

chosen : (found : Bool) (keys : List (Vec ℕ Global)) (key : Vec ℕ Global)
    → names_of (if found then keys else keys ++ key ∷ []) ≡ (if found then names_of keys else names_of keys ++ key.items ∷ [])
chosen true keys key = refl
chosen false keys key = map-append (λ (k : Vec ℕ Global). k.items) keys (key ∷ [])

-- a key that is put in
pub inserted : (keys after : List (Vec ℕ Global)) (key : Vec ℕ Global) (name : List ℕ) → key.items ≡ name
    → after ≡ insert_key (λ (a b : Vec ℕ Global). pointwise nat_eq a.items b.items) keys key → names_of after ≡ with_name (names_of keys) name
inserted keys after key name same is =
    ap names_of is
    ∙ chosen (list_any (λ (b : Vec ℕ Global). pointwise nat_eq key.items b.items) keys) keys key
    ∙ ap (λ found. if found then names_of keys else names_of keys ++ key.items ∷ []) (any_name (pointwise nat_eq key.items) keys)
    ∙ ap (with_name (names_of keys)) same
