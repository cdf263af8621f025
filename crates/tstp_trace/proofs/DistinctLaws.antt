-- Laws on distinct names.
use Rattle.std.proofs.Common.{◌≡◌, ℕ, zero, suc, ◌<◌, Bool, true, false, nat_eq, if◌then◌else◌, ◌||◌, List, [], ◌∷◌, ◌++◌, Some, length, take, slice_get, ◌⊎◌, inl, inr, refl, subst, sym, ap, ◌∙◌, arith}
use Rattle.std.proofs.lemmas.Option.{none-some, same_Some}
use Rattle.std.specs.Cmp.Lexicographic.{bytes_decides, pointwise}
use Rattle.tstp_trace.specs.Names.{AreDistinct, each_once, is_among, with_name, with_names}
use native.Mathlib.Decide.{dec_lt}

or_true : (b : Bool) → (b || true) ≡ true
or_true true = refl
or_true false = refl

-- a name that stands before a place is among those before it
pub among_taken : (k : ℕ) (names : List (List ℕ)) (j : ℕ) (name : List ℕ) → j < k → slice_get names j ≡ Some name → is_among (take k names) name ≡ true
among_taken zero names j name below here = absurd (omega arith)
among_taken (suc k) [] j name below here = absurd (none-some name here)
among_taken (suc k) (first ∷ names) zero name below here = rw ((bytes_decides name first).1 (sym (same_Some first name here))) refl
among_taken (suc k) (first ∷ names) (suc j) name below here = rw (among_taken k names j name (omega arith) here) (or_true (pointwise nat_eq name first))

-- names of which none is among those before it are distinct
pub distinct_names : (names : List (List ℕ)) → ((k : ℕ) (name : List ℕ) → slice_get names k ≡ Some name → is_among (take k names) name ≡ false) → AreDistinct names
distinct_names names fresh j k name at_j at_k = elim (dec_lt j k) [
  | yes less ↦ let a = among_taken k names j name less at_j in let b = fresh k name at_k in absurd cc
  | no not_less ↦ elim (dec_lt k j) [
    | yes less ↦ let a = among_taken j names k name less at_k in let b = fresh j name at_j in absurd cc
    | no not_more ↦ omega arith
  ]
]

-- ---- each name once

-- a name in a list with one more at its end
pushed_place : (names : List (List ℕ)) (last : List ℕ) (k : ℕ) (name : List ℕ) → slice_get (names ++ last ∷ []) k ≡ Some name → (slice_get names k ≡ Some name) ⊎ ((k ≡ length names) × (last ≡ name))
pushed_place [] last zero name here = inr (refl, same_Some last name here)
pushed_place [] last (suc k) name here = absurd (none-some name here)
pushed_place (first ∷ names) last zero name here = inl here
pushed_place (first ∷ names) last (suc k) name here = elim (pushed_place names last k name here) [ inl before ↦ inl before | inr now ↦ inr (ap suc now.0, now.1) ]

-- a name in a list is among it
among_here : (names : List (List ℕ)) (k : ℕ) (name : List ℕ) → slice_get names k ≡ Some name → is_among names name ≡ true
among_here [] k name here = absurd (none-some name here)
among_here (first ∷ names) zero name here = rw ((bytes_decides name first).1 (sym (same_Some first name here))) refl
among_here (first ∷ names) (suc k) name here = rw (among_here names k name here) (or_true (pointwise nat_eq name first))

distinct_push : (names : List (List ℕ)) (last : List ℕ) → AreDistinct names → is_among names last ≡ false → AreDistinct (names ++ last ∷ [])
distinct_push names last distinct absent j k name at_j at_k = elim (pushed_place names last j name at_j) [
  | inl before ↦ elim (pushed_place names last k name at_k) [
    | inl also ↦ distinct j k name before also
    | inr now ↦ let a = among_here names j name before in let b = subst (λ n. is_among names n ≡ false) now.1 absent in absurd cc
  ]
  | inr now ↦ elim (pushed_place names last k name at_k) [
    | inl before ↦ let a = among_here names k name before in let b = subst (λ n. is_among names n ≡ false) now.1 absent in absurd cc
    | inr also ↦ now.0 ∙ sym also.0
  ]
]

distinct_with_name : (names : List (List ℕ)) (name : List ℕ) → AreDistinct names → AreDistinct (with_name names name)
distinct_with_name names name distinct = by_test (is_among names name) refl
  where
    by_test : (b : Bool) → is_among names name ≡ b → AreDistinct (if b then names else names ++ name ∷ [])
    by_test true e = distinct
    by_test false e = distinct_push names name distinct e

distinct_with_names : (seen rest : List (List ℕ)) → AreDistinct seen → AreDistinct (with_names seen rest)
distinct_with_names seen [] distinct = distinct
distinct_with_names seen (name ∷ rest) distinct = distinct_with_names (with_name seen name) rest (distinct_with_name seen name distinct)

-- so are the names of a list, each once
pub distinct_once : (names : List (List ℕ)) → AreDistinct (each_once names)
distinct_once names = distinct_with_names [] names (λ j k name at_j at_k. absurd (none-some name at_j))
